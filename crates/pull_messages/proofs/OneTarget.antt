-- A text is at most one target.
use Rattle.std.proofs.Common.{◌≡◌, ◌<◌, ℕ, List, [], ◌∷◌, ◌++◌, length, get_or, Some, codes, inl, inr, refl, sym, ◌∙◌, ap, subst, arith, append-nil, length-append}
use Rattle.std.proofs.Math.ListN.{get_or-append}
use Rattle.std.proofs.lemmas.List.{length-map}
use Rattle.std.specs.Char.{to_ascii_lowercase}
use Rattle.std.specs.Str.{encode_utf8_all}
use Rattle.mof_values.specs.Fold.{fold_case, SameName}
use Rattle.pull_messages.specs.declared.target_kinds.FleetTarget.{FleetTarget}
use Rattle.pull_messages.specs.declared.target_kinds.FleetTarget.TheVariants.{Report, Summary}
use Rattle.pull_messages.specs.declared.target_kinds.Target.{Target}
use Rattle.pull_messages.specs.declared.target_kinds.Target.TheVariants.{Node, Action, Content, Module, SendReport}
use Rattle.pull_messages.specs.Escapes.{AreChars}
use Rattle.pull_messages.specs.FleetTargets.{SpellsFleetTarget}
use Rattle.pull_messages.specs.Spelling.{Spells}
use Rattle.pull_messages.specs.Stops.{IsEnd}
use Rattle.pull_messages.specs.Targets.{agent, agent_of, agent_parts, IsPart, IsTarget, Part, quoted, SpellsTarget, word}
use Rattle.pull_messages.proofs.Agents.{agent_length}
use Rattle.pull_messages.proofs.FormLaws.{content_end, path_end, reports_end, summary_word}
use Rattle.pull_messages.proofs.Languages.{same_front}
use Rattle.pull_messages.proofs.Quotes.{quoted_free, same_value}
use Rattle.pull_messages.proofs.TargetLaws.{chars_front, first_bytes, no_byte}
use Rattle.pull_messages.proofs.Words.{fold-append, fold-length}

-- one text is spellings of both lists of parts
abbrev BothSpell : List Part → List Part → Type 0
BothSpell p q = (rest : List ℕ) × Spells IsPart p rest × Spells IsPart q rest

-- ---- what begins alike goes on alike

word_same : (name : List ℕ) (p q : List Part) → BothSpell (word name ∷ p) (word name ∷ q) → BothSpell p q
word_same name p q (text, (a, r, is, in_a, others), (b, s, is2, in_b, others2)) =
    let rest = (same_front a r b s (sym is ∙ is2) (fold-length a b (in_a ∙ sym in_b))).1 in
    (r, others, subst (Spells IsPart q) (sym rest) others2)

some_same : (x y : ℕ) → Some x ≡ Some y → x ≡ y
some_same x y e = cc e

agent_same : (x y : ℕ) (p q : List Part) → BothSpell (agent x ∷ p) (agent y ∷ q) → (x ≡ y) × BothSpell p q
agent_same x y p q (text, (a, r, is, in_a, others), (b, s, is2, in_b, others2)) =
    let same = same_front a r b s (sym is ∙ is2) (agent_length a x in_a ∙ sym (agent_length b y in_b)) in
    (some_same x y (sym in_a ∙ ap agent_of same.0 ∙ in_b), (r, others, subst (Spells IsPart q) (sym same.1) others2))

quoted_same : (end : ℕ) → IsEnd end → (x y : List ℕ) (p q : List Part) → BothSpell (quoted x end ∷ p) (quoted y end ∷ q) → (x ≡ y) × BothSpell p q
quoted_same end ends x y p q (text, (a, r, is, in_a, others), (b, s, is2, in_b, others2)) =
    let front = quoted_free end ends a r b s (x, in_a) (y, in_b) (sym is ∙ is2) in
    let rest = (same_front a r b s (sym is ∙ is2) (ap length front)).1 in
    let chars = sym in_a.1 ∙ front ∙ in_b.1 in
    (same_value end ends x y [] [] (cc chars), (r, others, subst (Spells IsPart q) (sym rest) others2))

agents_same : (x y : ℕ) (p q : List Part) → BothSpell (agent_parts x p) (agent_parts y q) → (x ≡ y) × BothSpell p q
agents_same x y p q spelled =
    agent_same x y p q (word_same (codes "/PSDSCPullServer.svc/Nodes(AgentId='") (agent x ∷ p) (agent y ∷ q) spelled)

-- ---- the forms are apart

-- a word that ends the text, and a longer one at its front
longer : (end start : List ℕ) (parts : List Part) → length end < length start → BothSpell (word end ∷ []) (word start ∷ parts) → ⊥
longer end start parts less (text, (a, r, is, in_a, none), (b, s, is2, in_b, others)) =
    omega (arith, less, ap length is, length-append a r, ap length none, fold-length a end in_a, ap length is2, length-append b s, fold-length b start in_b)

ends_apart : (x y : ℕ) (end start : List ℕ) (parts : List Part) → length end < length start
    → BothSpell (agent_parts x (word end ∷ [])) (agent_parts y (word start ∷ parts)) → ⊥
ends_apart x y end start parts less spelled = longer end start parts less (agents_same x y (word end ∷ []) (word start ∷ parts) spelled).1

-- the letter of a word at the front, by fold
letter_at : (text a r name : List ℕ) (k : ℕ) → text ≡ a ++ r → SameName a name → k < length name → get_or (fold_case text) k 0 ≡ get_or (fold_case name) k 0
letter_at text a r name k is same within =
    let inside : k < length (fold_case a) = omega (arith, within, fold-length a name same, length-map a to_ascii_lowercase) in
    ap (λ (l : List ℕ). get_or l k 0) (ap fold_case is ∙ fold-append a r) ∙ get_or-append (fold_case a) (fold_case r) 0 k inside
    ∙ ap (λ (l : List ℕ). get_or l k 0) same

paths_apart : (x : ℕ) (p : List Part) (name version : List ℕ) (text : List ℕ) → Spells IsPart (agent_parts x p) text → SpellsTarget (Module name version) text → ⊥
paths_apart x p name version text (a, r, is, in_a, others) (b, s, is2, in_b, others2) =
    let n : get_or (fold_case text) 21 0 ≡ 110 = letter_at text a r (codes "/PSDSCPullServer.svc/Nodes(AgentId='") 21 is in_a (omega arith) in
    let m : get_or (fold_case text) 21 0 ≡ 109 = letter_at text b s (codes "/PSDSCPullServer.svc/Modules(ModuleName=") 21 is2 in_b (omega arith) in
    omega (arith, n, m)

-- ---- targets

contents_same : (x y : ℕ) (name other text : List ℕ) → SpellsTarget (Content x name) text → SpellsTarget (Content y other) text → Content x name ≡ Content y other
contents_same x y name other text first second =
    let start = codes "')/Configurations(ConfigurationName=" in
    let last = word (codes "/ConfigurationContent") ∷ [] in
    let ids = agents_same x y (word start ∷ quoted name 41 ∷ last) (word start ∷ quoted other 41 ∷ last) (text, first, second) in
    let names = quoted_same 41 (inl refl) name other last last (word_same start (quoted name 41 ∷ last) (quoted other 41 ∷ last) ids.1) in
    (λ i. Content (ids.0 i) (names.0 i))

modules_same : (name version name2 version2 text : List ℕ) → SpellsTarget (Module name version) text → SpellsTarget (Module name2 version2) text
    → Module name version ≡ Module name2 version2
modules_same name version name2 version2 text first second =
    let last = word (codes "/ModuleContent") ∷ [] in
    let p = word (codes "ModuleVersion=") ∷ quoted version 41 ∷ last in
    let q = word (codes "ModuleVersion=") ∷ quoted version2 41 ∷ last in
    let names = quoted_same 44 (inr refl) name name2 p q
    (word_same (codes "/PSDSCPullServer.svc/Modules(ModuleName=") (quoted name 44 ∷ p) (quoted name2 44 ∷ q) (text, first, second)) in
    let versions = quoted_same 41 (inl refl) version version2 last last
    (word_same (codes "ModuleVersion=") (quoted version 41 ∷ last) (quoted version2 41 ∷ last) names.1) in
    (λ i. Module (names.0 i) (versions.0 i))

content_parts : List ℕ → List Part
content_parts name = quoted name 41 ∷ word (codes "/ConfigurationContent") ∷ []

abbrev node_end : List ℕ
node_end = codes "')"

abbrev action_end : List ℕ
action_end = codes "')/GetDscAction"

abbrev report_end : List ℕ
report_end = codes "')/SendReport"

one_spelled : (t u : Target) (text : List ℕ) → SpellsTarget t text → SpellsTarget u text → t ≡ u
unfolding content_parts
one_spelled (Node x) (Node y) text s t = ap Node (agents_same x y (word node_end ∷ []) (word node_end ∷ []) (text, s, t)).0
one_spelled (Node x) (Action y) text s t = absurd (ends_apart x y node_end action_end [] (omega arith) (text, s, t))
one_spelled (Node x) (SendReport y) text s t = absurd (ends_apart x y node_end report_end [] (omega arith) (text, s, t))
one_spelled (Node x) (Content y n) text s t = absurd (ends_apart x y node_end content_end (content_parts n) (omega arith) (text, s, t))
one_spelled (Node x) (Module n v) text s t = absurd (paths_apart x (word node_end ∷ []) n v text s t)
one_spelled (Action x) (Node y) text s t = absurd (ends_apart y x node_end action_end [] (omega arith) (text, t, s))
one_spelled (Action x) (Action y) text s t = ap Action (agents_same x y (word action_end ∷ []) (word action_end ∷ []) (text, s, t)).0
one_spelled (Action x) (SendReport y) text s t = absurd (ends_apart y x report_end action_end [] (omega arith) (text, t, s))
one_spelled (Action x) (Content y n) text s t = absurd (ends_apart x y action_end content_end (content_parts n) (omega arith) (text, s, t))
one_spelled (Action x) (Module n v) text s t = absurd (paths_apart x (word action_end ∷ []) n v text s t)
one_spelled (SendReport x) (Node y) text s t = absurd (ends_apart y x node_end report_end [] (omega arith) (text, t, s))
one_spelled (SendReport x) (Action y) text s t = absurd (ends_apart x y report_end action_end [] (omega arith) (text, s, t))
one_spelled (SendReport x) (SendReport y) text s t = ap SendReport (agents_same x y (word report_end ∷ []) (word report_end ∷ []) (text, s, t)).0
one_spelled (SendReport x) (Content y n) text s t = absurd (ends_apart x y report_end content_end (content_parts n) (omega arith) (text, s, t))
one_spelled (SendReport x) (Module n v) text s t = absurd (paths_apart x (word report_end ∷ []) n v text s t)
one_spelled (Content x n) (Node y) text s t = absurd (ends_apart y x node_end content_end (content_parts n) (omega arith) (text, t, s))
one_spelled (Content x n) (Action y) text s t = absurd (ends_apart y x action_end content_end (content_parts n) (omega arith) (text, t, s))
one_spelled (Content x n) (SendReport y) text s t = absurd (ends_apart y x report_end content_end (content_parts n) (omega arith) (text, t, s))
one_spelled (Content x n) (Content y m) text s t = contents_same x y n m text s t
one_spelled (Content x n) (Module m v) text s t = absurd (paths_apart x (word content_end ∷ content_parts n) m v text s t)
one_spelled (Module n v) (Node y) text s t = absurd (paths_apart y (word node_end ∷ []) n v text t s)
one_spelled (Module n v) (Action y) text s t = absurd (paths_apart y (word action_end ∷ []) n v text t s)
one_spelled (Module n v) (SendReport y) text s t = absurd (paths_apart y (word report_end ∷ []) n v text t s)
one_spelled (Module n v) (Content y m) text s t = absurd (paths_apart y (word content_end ∷ content_parts m) n v text t s)
one_spelled (Module n v) (Module m w) text s t = modules_same n v m w text s t

-- ---- targets of the fleet

abbrev job_parts : ℕ → List Part
job_parts job = agent job ∷ word path_end ∷ []

reports_same : (x y j k : ℕ) (text : List ℕ) → SpellsFleetTarget (Report x j) text → SpellsFleetTarget (Report y k) text → Report x j ≡ Report y k
reports_same x y j k text first second =
    let ids = agents_same x y (word reports_end ∷ job_parts j) (word reports_end ∷ job_parts k) (text, first, second) in
    let jobs = agent_same j k (word path_end ∷ []) (word path_end ∷ []) (word_same reports_end (job_parts j) (job_parts k) ids.1) in
    (λ i. Report (ids.0 i) (jobs.0 i))

summary_agent : (x : ℕ) (p : List Part) (text : List ℕ) → SpellsFleetTarget Summary text → Spells IsPart (agent_parts x p) text → ⊥
summary_agent x p text (b, s, is2, in_b, none) (a, r, is, in_a, others) =
    let n : get_or (fold_case text) 21 0 ≡ 110 = letter_at text a r (codes "/PSDSCPullServer.svc/Nodes(AgentId='") 21 is in_a (omega arith) in
    let f : get_or (fold_case text) 21 0 ≡ 102 = letter_at text b s summary_word 21 is2 in_b (omega arith) in
    omega (arith, n, f)

summary_module : (name version text : List ℕ) → SpellsFleetTarget Summary text → SpellsTarget (Module name version) text → ⊥
summary_module name version text (a, r, is, in_a, none) (b, s, is2, in_b, others) =
    let f : get_or (fold_case text) 21 0 ≡ 102 = letter_at text a r summary_word 21 is in_a (omega arith) in
    let m : get_or (fold_case text) 21 0 ≡ 109 = letter_at text b s (codes "/PSDSCPullServer.svc/Modules(ModuleName=") 21 is2 in_b (omega arith) in
    omega (arith, f, m)

pub one_fleet : (t u : FleetTarget) (text : List ℕ) → SpellsFleetTarget t text → SpellsFleetTarget u text → t ≡ u
one_fleet (Report x j) (Report y k) text s t = reports_same x y j k text s t
one_fleet (Report x j) Summary text s t = absurd (summary_agent x (word reports_end ∷ job_parts j) text t s)
one_fleet Summary (Report x j) text s t = absurd (summary_agent x (word reports_end ∷ job_parts j) text s t)
one_fleet Summary Summary text s t = refl

one_front : (a b u v : List ℕ) → b ≡ a ++ u → a ≡ b ++ v → a ≡ b
one_front a b [] v first second = sym (first ∙ append-nil a)
one_front a b (x ∷ u) v first second = absurd (omega (arith, ap length first, length-append a (x ∷ u), ap length second, length-append b v))

pub one_chars : (a b text : List ℕ) → AreChars a text → AreChars b text → a ≡ b
one_chars a b text are are2 =
    let there = first_bytes (encode_utf8_all a) (encode_utf8_all b) text text [] [] are.1 are2.1 refl no_byte in
    let back = first_bytes (encode_utf8_all b) (encode_utf8_all a) text text [] [] are2.1 are.1 refl no_byte in
    let more = chars_front a b there.0 there.2 in
    let less = chars_front b a back.0 back.2 in
    one_front a b more.0 less.0 more.1 less.1

-- ---- targets of the fleet and others are apart

contents_letter : (p q : List Part) → BothSpell (word reports_end ∷ p) (word content_end ∷ q) → ⊥
contents_letter p q (text, (a, r, is, in_a, others), (b, s, is2, in_b, others2)) =
    let one : get_or (fold_case text) 3 0 ≡ 114 = letter_at text a r reports_end 3 is in_a (omega arith) in
    let other : get_or (fold_case text) 3 0 ≡ 99 = letter_at text b s content_end 3 is2 in_b (omega arith) in
    omega (arith, one, other)

kept_apart : (x j y : ℕ) (end : List ℕ) (text : List ℕ) → length end < length reports_end → SpellsFleetTarget (Report x j) text
    → Spells IsPart (agent_parts y (word end ∷ [])) text → ⊥
kept_apart x j y end text less first second = ends_apart y x end reports_end (job_parts j) less (text, second, first)

spelled_apart : (t : FleetTarget) (u : Target) (text : List ℕ) → SpellsFleetTarget t text → SpellsTarget u text → ⊥
unfolding content_parts
spelled_apart (Report x j) (Node y) text s t = kept_apart x j y node_end text (omega arith) s t
spelled_apart (Report x j) (Action y) text s t = kept_apart x j y action_end text (omega arith) s t
spelled_apart (Report x j) (SendReport y) text s t = kept_apart x j y report_end text (omega arith) s t
spelled_apart (Report x j) (Content y n) text s t =
    contents_letter (job_parts j) (content_parts n) (agents_same x y (word reports_end ∷ job_parts j) (word content_end ∷ content_parts n) (text, s, t)).1
spelled_apart (Report x j) (Module n v) text s t = paths_apart x (word reports_end ∷ job_parts j) n v text s t
spelled_apart Summary (Node y) text s t = summary_agent y (word node_end ∷ []) text s t
spelled_apart Summary (Action y) text s t = summary_agent y (word action_end ∷ []) text s t
spelled_apart Summary (SendReport y) text s t = summary_agent y (word report_end ∷ []) text s t
spelled_apart Summary (Content y n) text s t = summary_agent y (word content_end ∷ content_parts n) text s t
spelled_apart Summary (Module n v) text s t = summary_module n v text s t

pub fleet_apart : (t : FleetTarget) (u : Target) (cs text : List ℕ) → AreChars cs text → SpellsFleetTarget t cs → IsTarget text u → ⊥
unfolding IsTarget
fleet_apart t u cs text are spelled (b, are2, spelled2) =
    spelled_apart t u b (subst (SpellsFleetTarget t) (one_chars cs b text are are2) spelled) spelled2

pub one_target : (text : List ℕ) (t u : Target) → IsTarget text t → IsTarget text u → t ≡ u
unfolding IsTarget
one_target text t u (a, are, spelled) (b, are2, spelled2) = one_spelled t u b (subst (SpellsTarget t) (one_chars a b text are are2) spelled) spelled2
