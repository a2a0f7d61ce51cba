-- The forms of targets, part by part.
use Rattle.std.proofs.Common.{◌≡◌, ◌≤◌, ◌==◌, ℕ, List, [], ◌∷◌, ◌++◌, length, Bool, true, false, true≢false, cond, codes, Result, Ok, Err, IfOk, Some, inl, inr, refl, sym, ◌∙◌, ap, subst, arith, append_assoc, append-nil}
use Rattle.std.proofs.lemmas.Bool.{eqb-true}
use Rattle.std.specs.Str.{all_scalars}
use Rattle.pull_messages.specs.declared.parts.Stop.{Stop}
use Rattle.pull_messages.specs.declared.parts.Stop.TheVariants.{Left, Memory}
use Rattle.pull_messages.specs.declared.target_kinds.FleetTarget.TheVariants.{Report, Summary}
use Rattle.pull_messages.specs.declared.target_kinds.Target.{Target}
use Rattle.pull_messages.specs.declared.target_kinds.Target.TheVariants.{Node, Action, Content, Module, SendReport}
use Rattle.pull_messages.specs.FleetTargets.{SpellsFleetTarget}
use Rattle.pull_messages.specs.Spelling.{Spells}
use Rattle.pull_messages.specs.Stops.{StopsAt, EndsAt, IfLeft, IsWord, IsAnyQuoted, Then, IsAgentForm, IsContentForm, IsModuleForm, IsReportForm, IsAgent, IsAnyFleetTarget, IsAnyTarget, better_of}
use Rattle.pull_messages.specs.Targets.{IsPart, SpellsTarget, agent_parts, word, quoted, agent_of}
use Rattle.pull_messages.proofs.Agents.{agent_free, agent_some}
use Rattle.pull_messages.proofs.Languages.{PrefixFree, IsSome, Either, ends_either, then_free, then_some, ends_of_rest, ends_of_stop, stop_first, stop_second}
use Rattle.pull_messages.proofs.Quotes.{quoted_free, quoted_some}
use Rattle.pull_messages.proofs.Words.{word_free}
use Rattle.mof_values.specs.Fold.{SameName}

left_map : (U : Type 0) (e : Stop) (P Q : ℕ → Type 0) → ((n : ℕ) → P n → Q n) → IfLeft {T = ℕ} (Err e) P → IfLeft {T = U} (Err e) Q
left_map U (Left n) P Q holds h = holds n h
left_map U Memory P Q holds h = tt

-- a refusal that is handed on
pub left_exit : {U : Type 0} (result : Result U Stop) (y e : Stop) (P Q : ℕ → Type 0) → result ≡ Err y → y ≡ e → ((n : ℕ) → P n → Q n)
    → IfLeft {T = ℕ} (Err e) P → IfLeft result Q
left_exit {U} result y e P Q is same holds h =
    let there : IfLeft {T = U} (Err e) Q = left_map U e P Q holds h in
    rw (is, same) there

pub word_some : (name : List ℕ) → all_scalars name ≡ true → IsSome (IsWord name)
word_some name scalars = (name, scalars, refl)

-- the front of a target that names an agent
abbrev pub path_word : List ℕ
path_word = codes "/PSDSCPullServer.svc/Nodes(AgentId='"

pub agent_form_free : (end : List ℕ) → PrefixFree (IsAgentForm end)
agent_form_free end = then_free _ _ (word_free path_word) (then_free _ _ agent_free (word_free end))

pub agent_form_in : (id : ℕ) (end text : List ℕ) → Spells IsPart (agent_parts id (word end ∷ [])) text → IsAgentForm end text
agent_form_in id end text (a, b, is, first, (a2, b2, is2, second, (a3, b3, is3, third, nil))) =
    let last : SameName b2 end = subst (λ (l : List ℕ). SameName l end) (sym (is3 ∙ ap (λ (l : List ℕ). a3 ++ l) nil ∙ append-nil a3)) third in
    (a, b, is, first, (a2, b2, is2, (id, second), last))

pub joined : (chars a r b s : List ℕ) → chars ≡ a ++ r → r ≡ b ++ s → chars ≡ (a ++ b) ++ s
joined chars a r b s first second = first ∙ ap (λ (l : List ℕ). a ++ l) second ∙ sym (append_assoc a b s)

pub agent_form_taken : (chars f1 r1 f2 r2 f3 r3 end : List ℕ) (id : ℕ) → chars ≡ f1 ++ r1 → SameName f1 (codes "/PSDSCPullServer.svc/Nodes(AgentId='")
    → r1 ≡ f2 ++ r2 → agent_of f2 ≡ Some id → r2 ≡ f3 ++ r3 → SameName f3 end
    → (front : List ℕ) × (chars ≡ front ++ r3) × Spells IsPart (agent_parts id (word end ∷ [])) front
agent_form_taken chars f1 r1 f2 r2 f3 r3 end id s1 w1 s2 w2 s3 w3 = (
  f1 ++ (f2 ++ (f3 ++ [])),
  joined chars f1 r1 (f2 ++ (f3 ++ [])) r3 s1 (joined r1 f2 r2 (f3 ++ []) r3 s2 (s3 ∙ ap (λ (l : List ℕ). l ++ r3) (sym (append-nil f3)))),
  (f1, f2 ++ (f3 ++ []), refl, w1, (f2, f3 ++ [], refl, w2, (f3, [], refl, w3, refl))),
)

pub spells_append : {A : Type 0} (P : A → List ℕ → Type 0) (xs ys : List A) (a b : List ℕ) → Spells P xs a → Spells P ys b → Spells P (xs ++ ys) (a ++ b)
spells_append P [] ys a b first second = subst (Spells P ys) (ap (λ (l : List ℕ). l ++ b) (sym first)) second
spells_append P (x ∷ xs) ys a b (f, r, is, here, others) second =
    (f, r ++ b, ap (λ (l : List ℕ). l ++ b) is ∙ append_assoc f r b, here, spells_append P xs ys r b others second)

no_rest : (rest : List ℕ) → length rest ≡ 0 → rest ≡ []
no_rest [] none = refl
no_rest (x ∷ rest) none = absurd (omega (arith, none))

some_rest : (rest : List ℕ) → (length rest == 0) ≡ false → 1 ≤ length rest
some_rest [] some = absurd (true≢false some)
some_rest (x ∷ rest) some = omega arith

-- nothing more, or where the form ends
abbrev pub finished_of : {T : Type 0} → T → List ℕ → Result T Stop
finished_of target rest = cond (length rest == 0) (Ok target) (Err (Left (length rest)))

pub finished_ok : {T : Type 0} (Spelled : T → Type 0) (result : Result T Stop) (target : T) (rest : List ℕ) → result ≡ finished_of target rest
    → (rest ≡ [] → Spelled target) → IfOk result Spelled
finished_ok {T} Spelled result target rest is spelled = subst (λ (r : Result T Stop). IfOk r Spelled) (sym is) (at (length rest == 0) refl)
  where
    at : (b : Bool) → (length rest == 0) ≡ b → IfOk {E = Stop} (cond b (Ok target) (Err (Left (length rest)))) Spelled
    at true none = spelled (no_rest rest (eqb-true (length rest) 0 none))
    at false some = tt

pub finished_bad : {T : Type 0} (language : List ℕ → Type 0) (result : Result T Stop) (target : T) (chars f rest : List ℕ) → PrefixFree language
    → result ≡ finished_of target rest → chars ≡ f ++ rest → language f → IfLeft result (EndsAt language chars)
finished_bad {T} language result target chars f rest free is split in_f =
    subst (λ (r : Result T Stop). IfLeft r (EndsAt language chars)) (sym is) (at (length rest == 0) refl)
  where
    at : (b : Bool) → (length rest == 0) ≡ b → IfLeft (cond b (Ok target) (Err (Left (length rest)))) (EndsAt language chars)
    at true none = tt
    at false some = ends_of_rest language chars f rest free split in_f (some_rest rest some)

-- ---- contents

abbrev pub content_end : List ℕ
content_end = codes "')/Configurations(ConfigurationName="

abbrev content_rest : List ℕ → Type 0
content_rest = Then (IsAnyQuoted 41) (IsWord (codes "/ConfigurationContent"))

rest_some : IsSome content_rest
rest_some = then_some (IsAnyQuoted 41) (IsWord (codes "/ConfigurationContent")) (quoted_some 41 (inl refl)) (word_some (codes "/ConfigurationContent") refl)

pub content_free : PrefixFree IsContentForm
content_free = then_free _ _ (agent_form_free content_end) (then_free _ _ (quoted_free 41 (inl refl)) (word_free (codes "/ConfigurationContent")))

pub content_first : (chars : List ℕ) (n : ℕ) → StopsAt (IsAgentForm content_end) chars n → EndsAt IsContentForm chars n
content_first chars n stops =
    ends_of_stop IsContentForm chars n content_free (stop_first (IsAgentForm content_end) content_rest chars n (agent_form_free content_end) rest_some stops)

pub content_second : (chars f rest : List ℕ) (n : ℕ) → chars ≡ f ++ rest → IsAgentForm content_end f → StopsAt (IsAnyQuoted 41) rest n → EndsAt IsContentForm chars n
content_second chars f rest n split in_f stops =
    ends_of_stop IsContentForm chars n content_free (stop_second (IsAgentForm content_end) content_rest chars f rest n (agent_form_free content_end) split in_f
    (stop_first (IsAnyQuoted 41) (IsWord (codes "/ConfigurationContent")) rest n (quoted_free 41 (inl refl)) (word_some (codes "/ConfigurationContent") refl) stops))

pub content_third : (chars f rest q last : List ℕ) (n : ℕ) → chars ≡ f ++ rest → IsAgentForm content_end f → rest ≡ q ++ last → IsAnyQuoted 41 q
    → StopsAt (IsWord (codes "/ConfigurationContent")) last n → EndsAt IsContentForm chars n
content_third chars f rest q last n split in_f split_q in_q stops =
    ends_of_stop IsContentForm chars n content_free (stop_second (IsAgentForm content_end) content_rest chars f rest n (agent_form_free content_end) split in_f
    (stop_second (IsAnyQuoted 41) (IsWord (codes "/ConfigurationContent")) rest q last n (quoted_free 41 (inl refl)) split_q in_q stops))

-- ---- reports that are kept

abbrev pub reports_end : List ℕ
reports_end = codes "')/Reports(JobId='"

abbrev pub path_end : List ℕ
path_end = codes "')"

abbrev pub summary_word : List ℕ
summary_word = codes "/PSDSCPullServer.svc/Fleet"

abbrev job_rest : List ℕ → Type 0
job_rest = Then IsAgent (IsWord path_end)

pub kept_free : PrefixFree IsReportForm
kept_free = then_free _ _ (agent_form_free reports_end) (then_free _ _ agent_free (word_free path_end))

pub kept_first : (chars : List ℕ) (n : ℕ) → StopsAt (IsAgentForm reports_end) chars n → EndsAt IsReportForm chars n
kept_first chars n stops =
    ends_of_stop IsReportForm chars n kept_free (stop_first (IsAgentForm reports_end) job_rest chars n (agent_form_free reports_end)
    (then_some IsAgent (IsWord path_end) agent_some (word_some path_end refl)) stops)

in_kept : (chars f rest : List ℕ) (n : ℕ) → chars ≡ f ++ rest → IsAgentForm reports_end f → StopsAt job_rest rest n → EndsAt IsReportForm chars n
in_kept chars f rest n split in_f stops =
    ends_of_stop IsReportForm chars n kept_free (stop_second (IsAgentForm reports_end) job_rest chars f rest n (agent_form_free reports_end) split in_f stops)

pub kept_second : (chars f rest : List ℕ) (n : ℕ) → chars ≡ f ++ rest → IsAgentForm reports_end f → StopsAt IsAgent rest n → EndsAt IsReportForm chars n
kept_second chars f rest n split in_f stops =
    in_kept chars f rest n split in_f (stop_first IsAgent (IsWord path_end) rest n agent_free (word_some path_end refl) stops)

pub kept_third : (chars f rest j last : List ℕ) (n : ℕ) → chars ≡ f ++ rest → IsAgentForm reports_end f → rest ≡ j ++ last → IsAgent j
    → StopsAt (IsWord path_end) last n → EndsAt IsReportForm chars n
kept_third chars f rest j last n split in_f split_j in_j stops =
    in_kept chars f rest n split in_f (stop_second IsAgent (IsWord path_end) rest j last n agent_free split_j in_j stops)

-- ---- modules

abbrev module_word : List ℕ
module_word = codes "/PSDSCPullServer.svc/Modules(ModuleName="

abbrev version_word : List ℕ
version_word = codes "ModuleVersion="

abbrev last_word : List ℕ
last_word = codes "/ModuleContent"

abbrev fourth : List ℕ → Type 0
fourth = Then (IsAnyQuoted 41) (IsWord last_word)

abbrev third : List ℕ → Type 0
third = Then (IsWord version_word) fourth

abbrev second : List ℕ → Type 0
second = Then (IsAnyQuoted 44) third

fourth_some : IsSome fourth
fourth_some = then_some (IsAnyQuoted 41) (IsWord last_word) (quoted_some 41 (inl refl)) (word_some last_word refl)

third_some : IsSome third
third_some = then_some (IsWord version_word) fourth (word_some version_word refl) fourth_some

second_some : IsSome second
second_some = then_some (IsAnyQuoted 44) third (quoted_some 44 (inr refl)) third_some

pub module_free : PrefixFree IsModuleForm
module_free = then_free _ _ (word_free module_word) (then_free _ _ (quoted_free 44 (inr refl)) (then_free _ _ (word_free version_word)
    (then_free _ _ (quoted_free 41 (inl refl)) (word_free last_word))))

pub module_first : (chars : List ℕ) (n : ℕ) → StopsAt (IsWord module_word) chars n → EndsAt IsModuleForm chars n
module_first chars n stops = ends_of_stop IsModuleForm chars n module_free (stop_first (IsWord module_word) second chars n (word_free module_word) second_some stops)

in_second : (chars f rest : List ℕ) (n : ℕ) → chars ≡ f ++ rest → IsWord module_word f → StopsAt second rest n → EndsAt IsModuleForm chars n
in_second chars f rest n split in_f stops = ends_of_stop IsModuleForm chars n module_free (stop_second (IsWord module_word) second chars f rest n (word_free module_word) split in_f stops)

pub module_second : (chars f r1 : List ℕ) (n : ℕ) → chars ≡ f ++ r1 → IsWord module_word f → StopsAt (IsAnyQuoted 44) r1 n → EndsAt IsModuleForm chars n
module_second chars f r1 n split in_f stops = in_second chars f r1 n split in_f (stop_first (IsAnyQuoted 44) third r1 n (quoted_free 44 (inr refl)) third_some stops)

in_third : (r1 q r2 : List ℕ) (n : ℕ) → r1 ≡ q ++ r2 → IsAnyQuoted 44 q → StopsAt third r2 n → StopsAt second r1 n
in_third r1 q r2 n split in_q stops = stop_second (IsAnyQuoted 44) third r1 q r2 n (quoted_free 44 (inr refl)) split in_q stops

pub module_third : (chars f r1 q r2 : List ℕ) (n : ℕ) → chars ≡ f ++ r1 → IsWord module_word f → r1 ≡ q ++ r2 → IsAnyQuoted 44 q
    → StopsAt (IsWord version_word) r2 n → EndsAt IsModuleForm chars n
module_third chars f r1 q r2 n split in_f split_q in_q stops =
    in_second chars f r1 n split in_f (in_third r1 q r2 n split_q in_q (stop_first (IsWord version_word) fourth r2 n (word_free version_word) fourth_some stops))

pub module_fourth : (chars f r1 q r2 w r3 : List ℕ) (n : ℕ) → chars ≡ f ++ r1 → IsWord module_word f → r1 ≡ q ++ r2 → IsAnyQuoted 44 q
    → r2 ≡ w ++ r3 → IsWord version_word w → StopsAt (IsAnyQuoted 41) r3 n → EndsAt IsModuleForm chars n
module_fourth chars f r1 q r2 w r3 n split in_f split_q in_q split_w in_w stops =
    in_second chars f r1 n split in_f (in_third r1 q r2 n split_q in_q (stop_second (IsWord version_word) fourth r2 w r3 n (word_free version_word) split_w in_w
    (stop_first (IsAnyQuoted 41) (IsWord last_word) r3 n (quoted_free 41 (inl refl)) (word_some last_word refl) stops)))

pub module_fifth : (chars f r1 q r2 w r3 v r4 : List ℕ) (n : ℕ) → chars ≡ f ++ r1 → IsWord module_word f → r1 ≡ q ++ r2 → IsAnyQuoted 44 q
    → r2 ≡ w ++ r3 → IsWord version_word w → r3 ≡ v ++ r4 → IsAnyQuoted 41 v → StopsAt (IsWord last_word) r4 n → EndsAt IsModuleForm chars n
module_fifth chars f r1 q r2 w r3 v r4 n split in_f split_q in_q split_w in_w split_v in_v stops =
    in_second chars f r1 n split in_f (in_third r1 q r2 n split_q in_q (stop_second (IsWord version_word) fourth r2 w r3 n (word_free version_word) split_w in_w
    (stop_second (IsAnyQuoted 41) (IsWord last_word) r3 v r4 n (quoted_free 41 (inl refl)) split_v in_v stops)))

-- ---- all forms

pub better_bad : (one other : List ℕ → Type 0) (chars : List ℕ) (a b : Result Target Stop) → IfLeft a (EndsAt one chars) → IfLeft b (EndsAt other chars)
    → IfLeft (better_of a b) (EndsAt (Either one other) chars)
better_bad one other chars (Ok t) b first second = tt
better_bad one other chars (Err (Left m)) (Ok t) first second = tt
better_bad one other chars (Err (Left m)) (Err (Left n)) first second = ends_either one other chars m n first second
better_bad one other chars (Err (Left m)) (Err Memory) first second = tt
better_bad one other chars (Err Memory) (Ok t) first second = tt
better_bad one other chars (Err Memory) (Err stop) first second = tt

pub if_left : {T : Type 0} (r : Result T Stop) (P Q : ℕ → Type 0) → ((n : ℕ) → P n → Q n) → IfLeft r P → IfLeft r Q
if_left (Ok x) P Q holds h = tt
if_left (Err (Left n)) P Q holds h = holds n h
if_left (Err Memory) P Q holds h = tt

form_out : (end text : List ℕ) → IsAgentForm end text → (id : ℕ) × Spells IsPart (agent_parts id (word end ∷ [])) text
form_out end text (a, b, is, first, (a2, b2, is2, (id, second), last)) =
    (id, (a, b, is, first, (a2, b2, is2, second, (b2, [], sym (append-nil b2), last, refl))))

content_out : (text : List ℕ) → IsContentForm text → IsAnyTarget text
content_out text (f, r, is, form, (q, l, is2, (name, value), last)) =
    let head = form_out content_end f form in
    let tail : Spells IsPart (quoted name 41 ∷ word (codes "/ConfigurationContent") ∷ []) r = (q, l, is2, value, (l, [], sym (append-nil l), last, refl)) in (
      Content head.0 name,
      subst (SpellsTarget (Content head.0 name)) (sym is)
          (spells_append IsPart (agent_parts head.0 (word content_end ∷ [])) (quoted name 41 ∷ word (codes "/ConfigurationContent") ∷ []) f r head.1 tail),
    )

module_out : (text : List ℕ) → IsModuleForm text → IsAnyTarget text
module_out text (a, b, is, first, (q, b2, is2, (name, value), (w, b3, is3, between, (v, b4, is4, (version, value2), last)))) =
    (Module name version, (a, b, is, first, (q, b2, is2, value, (w, b3, is3, between, (v, b4, is4, value2, (b4, [], sym (append-nil b4), last, refl))))))

content_in : (id : ℕ) (name text : List ℕ) → SpellsTarget (Content id name) text → IsContentForm text
content_in id name text (a, b, is, first, (a2, b2, is2, second, (a3, b3, is3, word3, (q, b4, is4, value, (l, b5, is5, last, nil))))) =
    let after : b4 ≡ l = is5 ∙ ap (λ (x : List ℕ). l ++ x) nil ∙ append-nil l in (
      a ++ (a2 ++ a3),
      b3,
      joined text a b (a2 ++ a3) b3 is (joined b a2 b2 a3 b3 is2 is3),
      (a, a2 ++ a3, refl, first, (a2, a3, refl, (id, second), word3)),
      (q, b4, is4, (name, value), subst (λ (x : List ℕ). SameName x (codes "/ConfigurationContent")) (sym after) last),
    )

module_in : (name version text : List ℕ) → SpellsTarget (Module name version) text → IsModuleForm text
module_in name version text (a, b, is, first, (q, b2, is2, value, (w, b3, is3, between, (v, b4, is4, value2, (l, b5, is5, last, nil))))) =
    let after : b4 ≡ l = is5 ∙ ap (λ (x : List ℕ). l ++ x) nil ∙ append-nil l in
    (a, b, is, first, (q, b2, is2, (name, value), (w, b3, is3, between, (v, b4, is4, (version, value2), subst (λ (x : List ℕ). SameName x last_word) (sym after) last))))

-- the two forms of the fleet
kept_in : (id job : ℕ) (text : List ℕ) → SpellsFleetTarget (Report id job) text → IsReportForm text
kept_in id job text (a, b, is, first, (a2, b2, is2, second, (a3, b3, is3, word3, (j, b4, is4, in_j, (l, b5, is5, last, nil))))) =
    let after : b4 ≡ l = is5 ∙ ap (λ (x : List ℕ). l ++ x) nil ∙ append-nil l in (
      a ++ (a2 ++ a3),
      b3,
      joined text a b (a2 ++ a3) b3 is (joined b a2 b2 a3 b3 is2 is3),
      (a, a2 ++ a3, refl, first, (a2, a3, refl, (id, second), word3)),
      (j, b4, is4, (job, in_j), subst (λ (x : List ℕ). SameName x path_end) (sym after) last),
    )

summary_in : (text : List ℕ) → SpellsFleetTarget Summary text → IsWord summary_word text
summary_in text (a, b, is, first, nil) =
    subst (λ (x : List ℕ). SameName x summary_word) (sym (is ∙ ap (λ (l : List ℕ). a ++ l) nil ∙ append-nil a)) first

pub no_fleet : (text : List ℕ) → (IsReportForm text → ⊥) → (IsWord summary_word text → ⊥) → IsAnyFleetTarget text → ⊥
no_fleet text no_report no_summary (Report id job, spelled) = no_report (kept_in id job text spelled)
no_fleet text no_report no_summary (Summary, spelled) = no_summary (summary_in text spelled)

abbrev pub AnyForm : List ℕ → Type 0
AnyForm = Either (IsAgentForm (codes "')")) (Either (IsAgentForm (codes "')/GetDscAction")) (Either (IsAgentForm (codes "')/SendReport")) (Either IsContentForm IsModuleForm)))

pub any_out : (text : List ℕ) → AnyForm text → IsAnyTarget text
any_out text (inl form) = let out = form_out (codes "')") text form in (Node out.0, out.1)
any_out text (inr (inl form)) = let out = form_out (codes "')/GetDscAction") text form in (Action out.0, out.1)
any_out text (inr (inr (inl form))) = let out = form_out (codes "')/SendReport") text form in (SendReport out.0, out.1)
any_out text (inr (inr (inr (inl form)))) = content_out text form
any_out text (inr (inr (inr (inr form)))) = module_out text form

spelled_in : (t : Target) (text : List ℕ) → SpellsTarget t text → AnyForm text
spelled_in (Node id) text spelled = inl (agent_form_in id (codes "')") text spelled)
spelled_in (Action id) text spelled = inr (inl (agent_form_in id (codes "')/GetDscAction") text spelled))
spelled_in (SendReport id) text spelled = inr (inr (inl (agent_form_in id (codes "')/SendReport") text spelled)))
spelled_in (Content id name) text spelled = inr (inr (inr (inl (content_in id name text spelled))))
spelled_in (Module name version) text spelled = inr (inr (inr (inr (module_in name version text spelled))))

pub any_in : (text : List ℕ) → IsAnyTarget text → AnyForm text
any_in text any = spelled_in any.0 text any.1
