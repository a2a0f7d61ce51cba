-- Written targets are their targets.
use Rattle.std.proofs.Common.{◌≡◌, ◌≢◌, ◌<◌, ◌+◌, ◌/◌, ◌%◌, ◌^◌, ◌==◌, ◌&&◌, ℕ, suc, List, [], ◌∷◌, ◌++◌, length, get_or, Bool, true, false, cond, true≢false, nat_lt, All, Some, codes, inl, inr, refl, sym, ◌∙◌, ap, subst, arith, append_assoc, append-nil}
use Rattle.std.specs.Char.{IsScalar}
use Rattle.std.specs.List.{AllByRecursion, list_all}
use Rattle.std.specs.Str.{all_scalars, encode_utf8_all}
use Rattle.std.proofs.Math.Utf8.{scalar, low_scalar, encode}
use Rattle.std.proofs.lemmas.Bool.Decides.{nat_tests}
use Rattle.std.proofs.lemmas.List.Elements.{All-head, All-tail}
use Rattle.std.proofs.lemmas.Str.{encodes-append, encode_ascii}
use Rattle.pull_messages.specs.declared.target_kinds.Target.{Target}
use Rattle.pull_messages.specs.declared.target_kinds.Target.TheVariants.{Node, Action, Content, Module, SendReport}
use Rattle.pull_messages.specs.Cells.{is_cell}
use Rattle.pull_messages.specs.Escapes.{IsWritten, AreChars, digit_of}
use Rattle.pull_messages.specs.Spelling.{Spells}
use Rattle.pull_messages.specs.Targets.{agent_parts, doubled, HasValues, IsPart, IsTarget, IsValue, quoted, SpellsTarget, word}
use Rattle.pull_messages.specs.TargetText.{agent_path, escaped, escaped_all, HasRanges, is_unreserved, target_text, upper_digit, value_text}
use Rattle.pull_messages.specs.Writing.{id_text}
use Rattle.pull_messages.proofs.Agents.{agent_cells}
use Rattle.pull_messages.proofs.FormLaws.{spells_append}
use Rattle.pull_messages.proofs.Ids.{agent_back}
use Rattle.pull_messages.proofs.Quotes.{doubled_cases}
use Rattle.pull_messages.proofs.Scalars.{both, scalars_join}

-- ---- bytes

digit_back : (v : ℕ) → v < 16 → digit_of (upper_digit v) ≡ Some v
digit_back v small = grind (arith, nat_tests)

escape_written : (b : ℕ) → b < 256 → IsWritten b (escaped b)
escape_written b small = at (is_unreserved b) refl
  where
    at : (u : Bool) → is_unreserved b ≡ u → IsWritten b (cond u (b ∷ []) (37 ∷ upper_digit (b / 16) ∷ upper_digit (b % 16) ∷ []))
    at true is = inl (refl, λ same. true≢false (sym is ∙ ap is_unreserved same))
    at false is =
        inr (upper_digit (b / 16), upper_digit (b % 16), b / 16, b % 16, refl, digit_back (b / 16) (omega arith), digit_back (b % 16) (omega arith), omega arith)

abbrev AreBytes : List ℕ → Type 0
AreBytes bytes = AllByRecursion (λ b. b < 256) bytes

bytes_written : (bytes : List ℕ) → AreBytes bytes → Spells IsWritten bytes (escaped_all bytes)
bytes_written [] small = refl
bytes_written (b ∷ bytes) small = (escaped b, escaped_all bytes, refl, escape_written b small.0, bytes_written bytes small.1)

bytes_join : (a b : List ℕ) → AreBytes a → AreBytes b → AreBytes (a ++ b)
bytes_join [] b first second = second
bytes_join (x ∷ a) b first second = (first.0, bytes_join a b first.1 second)

char_bytes : (c : ℕ) → scalar c ≡ true → AreBytes (encode c)
unfolding encode
char_bytes c is = one (nat_lt c 128) refl
  where
    three : (w : Bool) → nat_lt c 65536 ≡ w
        → AreBytes (cond w ((224 + c / 4096) ∷ (128 + (c / 64) % 64) ∷ (128 + c % 64) ∷ []) ((240 + c / 262144) ∷ (128 + (c / 4096) % 64) ∷ (128 + (c / 64) % 64) ∷ (128 + c % 64) ∷ []))
    three true small = (grind (arith, nat_tests), (omega arith, (omega arith, tt)))
    three false large = (grind (arith, nat_tests), (omega arith, (omega arith, (omega arith, tt))))

    two : (w : Bool) → nat_lt c 2048 ≡ w
        → AreBytes (cond w ((192 + c / 64) ∷ (128 + c % 64) ∷ []) (cond (nat_lt c 65536) ((224 + c / 4096) ∷ (128 + (c / 64) % 64) ∷ (128 + c % 64) ∷ []) ((240 + c / 262144) ∷ (128 + (c / 4096) % 64) ∷ (128 + (c / 64) % 64) ∷ (128 + c % 64) ∷ [])))
    two true small = (grind (arith, nat_tests), (omega arith, tt))
    two false large = three (nat_lt c 65536) refl

    one : (w : Bool) → nat_lt c 128 ≡ w
        → AreBytes (cond w (c ∷ []) (cond (nat_lt c 2048) ((192 + c / 64) ∷ (128 + c % 64) ∷ []) (cond (nat_lt c 65536) ((224 + c / 4096) ∷ (128 + (c / 64) % 64) ∷ (128 + c % 64) ∷ []) ((240 + c / 262144) ∷ (128 + (c / 4096) % 64) ∷ (128 + (c / 64) % 64) ∷ (128 + c % 64) ∷ []))))
    one true small = (grind (arith, nat_tests), tt)
    one false large = two (nat_lt c 2048) refl

chars_bytes : (chars : List ℕ) → all_scalars chars ≡ true → AreBytes (encode_utf8_all chars)
chars_bytes [] is = tt
chars_bytes (c ∷ chars) is =
    let parts = both (scalar c) (all_scalars chars) is in
    bytes_join (encode c) (encode_utf8_all chars) (char_bytes c parts.0) (chars_bytes chars parts.1)

-- ---- characters

scalars_of : (chars : List ℕ) → All IsScalar chars → all_scalars chars ≡ true
scalars_of [] all = refl
scalars_of (c ∷ chars) all =
    ap (λ (b : Bool). b && all_scalars chars) (All-head IsScalar c chars all) ∙ scalars_of chars (All-tail IsScalar c chars all)

doubled_scalars : (text : List ℕ) → all_scalars text ≡ true → all_scalars (doubled text) ≡ true
doubled_scalars [] is = refl
doubled_scalars (c ∷ text) is =
    let parts = both (scalar c) (all_scalars text) is in
    let more = doubled_scalars text parts.1 in
    elim (doubled_cases c text) [
      | inl quote ↦ ap all_scalars quote.1 ∙ more
      | inr other ↦ ap all_scalars other.1 ∙ ap (λ (b : Bool). b && all_scalars (doubled text)) parts.0 ∙ more
    ]

are_joined : (a b s t : List ℕ) → AreChars a s → AreChars b t → AreChars (a ++ b) (s ++ t)
are_joined a b s t first second = (
  scalars_join a b first.0 second.0,
  subst (λ (l : List ℕ). Spells IsWritten l (s ++ t)) (sym (encodes-append a b))
      (spells_append IsWritten (encode_utf8_all a) (encode_utf8_all b) s t first.1 second.1),
)

are_value : (text : List ℕ) → All IsScalar text → AreChars (doubled text) (value_text text)
are_value text all =
    let is = doubled_scalars text (scalars_of text all) in
    (is, bytes_written (encode_utf8_all (doubled text)) (chars_bytes (doubled text) is))

-- an ASCII character other than `%` is written as itself
abbrev is_plain : ℕ → Bool
is_plain c = nat_lt c 128 && cond (c == 37) false true

are_plain : (text : List ℕ) → list_all is_plain text ≡ true → AreChars text text
are_plain [] is = (refl, refl)
are_plain (c ∷ text) is =
    let parts = both (is_plain c) (list_all is_plain text) is in
    let small : c < 128 = below c parts.0 in
    let rest = are_plain text parts.1 in
    let first : scalar c ≡ true = low_scalar c (omega arith) in (
      ap (λ (b : Bool). b && all_scalars text) first ∙ rest.0,
      subst (λ (l : List ℕ). Spells IsWritten (l ++ encode_utf8_all text) (c ∷ text)) (sym (encode_ascii c small))
          (c ∷ [], text, refl, inl (refl, other c parts.0), rest.1),
    )
  where
    below : (c : ℕ) → is_plain c ≡ true → c < 128
    below c is = grind (arith, nat_tests)

    other : (c : ℕ) → is_plain c ≡ true → c ≢ 37
    other c is = λ same. true≢false (sym is ∙ ap is_plain same)

all_from : (p : ℕ → Bool) (xs : List ℕ) → ((k : ℕ) → k < length xs → p (get_or xs k 0) ≡ true) → list_all p xs ≡ true
all_from p [] at = refl
all_from p (x ∷ xs) at =
    let here : p x ≡ true = at 0 (omega arith) in
    ap (λ (b : Bool). b && list_all p xs) here ∙ all_from p xs (λ k within. at (suc k) (omega arith))

are_id : (id : ℕ) → id < 2 ^ 128 → AreChars (id_text id) (id_text id)
are_id id fits =
    let cells = agent_cells (id_text id) id (agent_back id fits) in
    are_plain (id_text id) (all_from is_plain (id_text id) (λ k within. plain k (get_or (id_text id) k 0) (cells.0 k within)))
  where
    plain : (k c : ℕ) → is_cell k c ≡ true → is_plain c ≡ true
    plain k c is = grind (arith, nat_tests)

-- ---- targets

abbrev server : List ℕ
server = codes "/PSDSCPullServer.svc"

are_server : AreChars server (encode_utf8_all server)
unfolding encode
are_server = are_plain server refl

are_agent : (id : ℕ) (end : List ℕ) → id < 2 ^ 128 → list_all is_plain end ≡ true → AreChars (agent_path id end) (agent_path id end)
are_agent id end fits plain =
    let nodes = codes "/Nodes(AgentId='" in
    let close = codes "')" in
    are_joined ((nodes ++ id_text id) ++ close) end ((nodes ++ id_text id) ++ close) end
    (are_joined (nodes ++ id_text id) close (nodes ++ id_text id) close
    (are_joined nodes (id_text id) nodes (id_text id) (are_plain nodes refl) (are_id id fits)) (are_plain close refl)) (are_plain end plain)

agent_split : (p a i c e : List ℕ) → p ++ (((a ++ i) ++ c) ++ e) ≡ (p ++ a) ++ (i ++ ((c ++ e) ++ []))
agent_split p a i c e = simp (append_assoc, append-nil)

spells_agent : (id : ℕ) (end : List ℕ) → id < 2 ^ 128 → Spells IsPart (agent_parts id (word (codes "')" ++ end) ∷ [])) (server ++ agent_path id end)
spells_agent id end fits = (
  server ++ codes "/Nodes(AgentId='",
  id_text id ++ ((codes "')" ++ end) ++ []),
  agent_split server (codes "/Nodes(AgentId='") (id_text id) (codes "')") end,
  refl,
  (id_text id, (codes "')" ++ end) ++ [], refl, agent_back id fits, (codes "')" ++ end, [], refl, refl, refl)),
)

content_split : (p f v l : List ℕ) → (p ++ f) ++ ((39 ∷ (v ++ 39 ∷ 41 ∷ [])) ++ l) ≡ p ++ (((f ++ 39 ∷ []) ++ v) ++ 39 ∷ 41 ∷ l)
content_split p f v l = simp append_assoc

module_split : (p m u w v l : List ℕ)
    → p ++ (((((m ++ 39 ∷ []) ++ u) ++ (39 ∷ 44 ∷ (w ++ 39 ∷ []))) ++ v) ++ 39 ∷ 41 ∷ l)
    ≡ (p ++ m) ++ ((39 ∷ (u ++ 39 ∷ 44 ∷ [])) ++ (w ++ ((39 ∷ (v ++ 39 ∷ 41 ∷ [])) ++ (l ++ []))))
module_split p m u w v l = simp (append_assoc, append-nil)

agent_target : (id : ℕ) (end : List ℕ) (target : Target) → id < 2 ^ 128 → list_all is_plain end ≡ true
    → Spells IsPart (agent_parts id (word (codes "')" ++ end) ∷ [])) ≡ SpellsTarget target → IsTarget (encode_utf8_all server ++ agent_path id end) target
unfolding IsTarget
agent_target id end target fits plain is = (
  server ++ agent_path id end,
  are_joined server (agent_path id end) (encode_utf8_all server) (agent_path id end) are_server (are_agent id end fits plain),
  subst (λ (s : List ℕ → Type 0). s (server ++ agent_path id end)) is (spells_agent id end fits),
)

content_target : (id : ℕ) (name : List ℕ) → id < 2 ^ 128 → All IsScalar name → IsValue name
    → IsTarget (encode_utf8_all server ++ (agent_path id (codes "/Configurations(ConfigurationName='") ++ value_text name ++ codes "')/ConfigurationContent"))
    (Content id name)
unfolding IsTarget
content_target id name fits scalars value =
    let start = codes "/Configurations(ConfigurationName=" in
    let open_path = agent_path id (codes "/Configurations(ConfigurationName='") in
    let last = codes "')/ConfigurationContent" in
    let end = codes "/ConfigurationContent" in
    let opened : agent_path id start ++ 39 ∷ [] ≡ open_path = append_assoc ((codes "/Nodes(AgentId='" ++ id_text id) ++ codes "')") start (39 ∷ []) in
    let split : (server ++ agent_path id start) ++ ((39 ∷ (doubled name ++ 39 ∷ 41 ∷ [])) ++ end) ≡ server ++ ((open_path ++ doubled name) ++ last) =
    content_split server (agent_path id start) (doubled name) end ∙ ap (λ (l : List ℕ). server ++ ((l ++ doubled name) ++ last)) opened in
    let tail : Spells IsPart (quoted name 41 ∷ word end ∷ []) ((39 ∷ (doubled name ++ 39 ∷ 41 ∷ [])) ++ end) =
    (39 ∷ (doubled name ++ 39 ∷ 41 ∷ []), end, refl, (value, refl), (end, [], refl, refl, refl)) in (
      server ++ ((open_path ++ doubled name) ++ last),
      are_joined server ((open_path ++ doubled name) ++ last) (encode_utf8_all server) ((open_path ++ value_text name) ++ last) are_server
          (are_joined (open_path ++ doubled name) last (open_path ++ value_text name) last
          (are_joined open_path (doubled name) open_path (value_text name) (are_agent id (codes "/Configurations(ConfigurationName='") fits refl) (are_value name scalars))
          (are_plain last refl)),
      subst (SpellsTarget (Content id name)) split
          (spells_append IsPart (agent_parts id (word (codes "')" ++ start) ∷ [])) (quoted name 41 ∷ word end ∷ []) (server ++ agent_path id start)
          ((39 ∷ (doubled name ++ 39 ∷ 41 ∷ [])) ++ end) (spells_agent id start fits) tail),
    )

module_target : (name version : List ℕ) → All IsScalar name → All IsScalar version → IsValue name → IsValue version
    → IsTarget (encode_utf8_all server ++ (codes "/Modules(ModuleName='" ++ value_text name ++ codes "',ModuleVersion='" ++ value_text version ++ codes "')/ModuleContent"))
    (Module name version)
unfolding IsTarget
module_target name version scalars more value value2 =
    let first = codes "/Modules(ModuleName='" in
    let middle = codes "',ModuleVersion='" in
    let last = codes "')/ModuleContent" in
    let u = doubled name in
    let v = doubled version in
    let end = codes "/ModuleContent" in (
      server ++ ((((first ++ u) ++ middle) ++ v) ++ last),
      are_joined server ((((first ++ u) ++ middle) ++ v) ++ last) (encode_utf8_all server) ((((first ++ value_text name) ++ middle) ++ value_text version) ++ last) are_server
          (are_joined (((first ++ u) ++ middle) ++ v) last (((first ++ value_text name) ++ middle) ++ value_text version) last
          (are_joined ((first ++ u) ++ middle) v ((first ++ value_text name) ++ middle) (value_text version)
          (are_joined (first ++ u) middle (first ++ value_text name) middle
          (are_joined first u first (value_text name) (are_plain first refl) (are_value name scalars)) (are_plain middle refl)) (are_value version more)) (are_plain last refl)),
      (
        server ++ codes "/Modules(ModuleName=",
        (39 ∷ (u ++ 39 ∷ 44 ∷ [])) ++ (codes "ModuleVersion=" ++ ((39 ∷ (v ++ 39 ∷ 41 ∷ [])) ++ (end ++ []))),
        module_split server (codes "/Modules(ModuleName=") u (codes "ModuleVersion=") v end,
        refl,
        (
          39 ∷ (u ++ 39 ∷ 44 ∷ []),
          codes "ModuleVersion=" ++ ((39 ∷ (v ++ 39 ∷ 41 ∷ [])) ++ (end ++ [])),
          refl,
          (value, refl),
          (
            codes "ModuleVersion=",
            (39 ∷ (v ++ 39 ∷ 41 ∷ [])) ++ (end ++ []),
            refl,
            refl,
            (39 ∷ (v ++ 39 ∷ 41 ∷ []), end ++ [], refl, (value2, refl), (end, [], refl, refl, refl)),
          ),
        ),
      ),
    )

pub written_target : (target : Target) → HasRanges target → HasValues target → IsTarget (target_text server target) target
unfolding target_text
written_target (Node id) ranges values = agent_target id [] (Node id) ranges refl refl
written_target (Action id) ranges values = agent_target id (codes "/GetDscAction") (Action id) ranges refl refl
written_target (SendReport id) ranges values = agent_target id (codes "/SendReport") (SendReport id) ranges refl refl
written_target (Content id name) ranges values = content_target id name ranges.0 ranges.1 values
written_target (Module name version) ranges values = module_target name version ranges.0 ranges.1 values.0 values.1
