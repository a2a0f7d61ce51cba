-- Of which change bytes are the body.
use Rattle.std.proofs.Common.{◌≡◌, ◌⊎◌, inl, inr, ℕ, ◌+◌, ◌*◌, ◌≤◌, List, [], ◌∷◌, ◌++◌, length, Result, Ok, Err, IsErrAnd, refl, sym, ◌∙◌, ap, ap₂, subst, arith, append_assoc}
use Rattle.std.specs.Int.{w128}
use Rattle.std.proofs.lemmas.List.{append-nil}
use Rattle.store_fields.specs.declared.error.FieldError.{FieldError}
use Rattle.store_fields.specs.declared.error.FieldError.TheVariants.{Wrong}
use Rattle.store_fields.specs.Fields.{bytes_of_number, bytes_of_text, bytes_of_list, IsList, IsText}
use Rattle.store_fields.specs.Reading.{Reads, IsUnique}
use Rattle.store_fields.proofs.Composing.{taken}
use Rattle.store_fields.proofs.Listed.{list_unique}
use Rattle.store_fields.proofs.LongNumbers.{long_unique}
use Rattle.store_fields.proofs.Texts.{text_unique}
use Rattle.mof_values.specs.declared.limits.TheConstants.{MAX_NAME_BYTES}
use Rattle.pull_messages.specs.declared.registration.Registration.{Registration}
use Rattle.pull_store.specs.declared.change.Change.{Change}
use Rattle.pull_store.specs.declared.change.Change.TheVariants.{Register, Report}
use Rattle.pull_store.specs.Bodies.{bytes_of_ids, bytes_of_registration}
use Rattle.pull_store.specs.Laws.{BodiesAreOfOne}
use Rattle.pull_store.specs.Sound.{IsId, AreIds, AreFields, IsNameText, IsRegistration}
use Rattle.pull_store.specs.Stands.{IsBody}
use Rattle.pull_messages.specs.declared.limits.TheConstants.{MAX_LIST_ITEMS, MAX_TEXT_BYTES}
use Rattle.pull_store.specs.declared.limits.TheConstants.{LENGTHS, MAX_BYTES}
use Rattle.pull_store.proofs.Sizes.{length-registration}

-- an error that is passed on as it is
pub passed_on : {T E : Type 0} (error : E) (result : Result T E) → IsErrAnd result (λ same. same ≡ error) → result ≡ Err error
passed_on error (Ok value) is = absurd is
passed_on error (Err same) is = ap Err is

-- ---- kinds

same_heads : (k j : ℕ) (xs ys : List ℕ) → k ∷ xs ≡ j ∷ ys → (k ≡ j) × (xs ≡ ys)
same_heads k j xs ys e = (cc e, cc e)

pub no_empty : (change : Change) → IsBody [] change → ⊥
no_empty (Register agent x) is = cc is.is
no_empty (Report agent job body) is = cc is.is

pub kind_of : (kind : ℕ) (rest : List ℕ) (change : Change) → IsBody (kind ∷ rest) change → (kind ≡ 1) ⊎ (kind ≡ 2)
kind_of kind rest (Register agent x) is = inl (same_heads kind 1 rest (bytes_of_number w128 agent ++ bytes_of_registration x) is.is).0
kind_of kind rest (Report agent job body) is = inr (same_heads kind 2 rest (bytes_of_number w128 agent ++ (bytes_of_number w128 job ++ body)) is.is).0

-- all after the kind of a registration
pub record SpellsRegister (rest : List ℕ) (change : Change) : Type 0 where
  pub agent : ℕ
  pub registration : Registration
  pub is : change ≡ Register agent registration
  pub in_range : IsId agent
  pub sized : IsRegistration registration
  pub spells : rest ≡ bytes_of_number w128 agent ++ bytes_of_registration registration

pub register_at : (rest : List ℕ) (change : Change) → IsBody (1 ∷ rest) change → SpellsRegister rest change
register_at rest (Register agent x) is = record {
  agent = agent;
  registration = x;
  is = refl;
  in_range = is.size.0;
  sized = is.size.1;
  spells = (same_heads 1 1 rest (bytes_of_number w128 agent ++ bytes_of_registration x) is.is).1;
}
register_at rest (Report agent job body) is =
    absurd (let e : 1 ≡ 2 = (same_heads 1 2 rest (bytes_of_number w128 agent ++ (bytes_of_number w128 job ++ body)) is.is).0 in omega (arith, e))

-- all after the kind of a report
pub record SpellsReport (rest : List ℕ) (change : Change) : Type 0 where
  pub agent : ℕ
  pub job : ℕ
  pub body : List ℕ
  pub is : change ≡ Report agent job body
  pub ids : AreIds (agent, job)
  pub short : length body ≤ MAX_BYTES
  pub spells : rest ≡ bytes_of_ids (agent, job) ++ body

pub report_at : (rest : List ℕ) (change : Change) → IsBody (2 ∷ rest) change → SpellsReport rest change
report_at rest (Register agent x) is =
    absurd (let e : 2 ≡ 1 = (same_heads 2 1 rest (bytes_of_number w128 agent ++ bytes_of_registration x) is.is).0 in omega (arith, e))
report_at rest (Report agent job body) is = record {
  agent = agent;
  job = job;
  body = body;
  is = refl;
  ids = (is.size.0, is.size.1);
  short = is.size.2;
  spells = (same_heads 2 2 rest (bytes_of_number w128 agent ++ (bytes_of_number w128 job ++ body)) is.is).1
      ∙ sym (append_assoc (bytes_of_number w128 agent) (bytes_of_number w128 job) body);
}

-- ---- agents and jobs

pub ids_opened : (ids : ℕ × ℕ) (rest : List ℕ) → bytes_of_ids ids ++ rest ≡ bytes_of_number w128 ids.0 ++ (bytes_of_number w128 ids.1 ++ rest)
ids_opened ids rest = append_assoc (bytes_of_number w128 ids.0) (bytes_of_number w128 ids.1) rest

pub ids_unique : IsUnique bytes_of_ids AreIds
ids_unique x y r s one other e =
    let agent = long_unique x.0 y.0 _ _ one.0 other.0 (sym (ids_opened x r) ∙ e ∙ ids_opened y s) in
    let job = long_unique x.1 y.1 r s one.1 other.1 agent.1 in
    (ap₂ (λ (a b : ℕ). pair a b) agent.0 job.0, job.1)
  where
    pair : ℕ → ℕ → ℕ × ℕ
    pair a b = (a, b)

-- ---- registrations

pub opened : (x : Registration) (rest : List ℕ)
    → bytes_of_registration x ++ rest ≡ bytes_of_text x.lcm_version ++ (bytes_of_text x.node_name ++ (bytes_of_text x.ip_address ++ (bytes_of_list bytes_of_text x.names ++ rest)))
opened x rest =
    let version = bytes_of_text x.lcm_version in
    let node = bytes_of_text x.node_name in
    let address = bytes_of_text x.ip_address in
    let names = bytes_of_list bytes_of_text x.names in
    append_assoc (version ++ (node ++ address)) names rest
    ∙ append_assoc version (node ++ address) (names ++ rest)
    ∙ ap (λ (l : List ℕ). version ++ l) (append_assoc node address (names ++ rest))

name_unique : IsUnique bytes_of_text IsNameText
name_unique x y r s one other e = text_unique MAX_NAME_BYTES (omega arith) x y r s one.text other.text e

made : List ℕ → List ℕ → List ℕ → List (List ℕ) → Registration
made version node address names = record { lcm_version = version; node_name = node; ip_address = address; names = names }

same_made : (v v' n n' a a' : List ℕ) (l l' : List (List ℕ)) → v ≡ v' → n ≡ n' → a ≡ a' → l ≡ l' → made v n a l ≡ made v' n' a' l'
same_made v v' n n' a a' l l' e f g h = cc (e, f, g, h)

pub same_fields : (x y : Registration) → x.lcm_version ≡ y.lcm_version → x.node_name ≡ y.node_name → x.ip_address ≡ y.ip_address → x.names ≡ y.names → x ≡ y
unfolding made
same_fields x y e f g h = same_made x.lcm_version y.lcm_version x.node_name y.node_name x.ip_address y.ip_address x.names y.names e f g h

pub fields_unique : IsUnique bytes_of_registration AreFields
fields_unique x y r s one other e =
    let version = text_unique MAX_TEXT_BYTES (omega arith) x.lcm_version y.lcm_version _ _ one.version other.version (sym (opened x r) ∙ e ∙ opened y s) in
    let node = text_unique MAX_TEXT_BYTES (omega arith) x.node_name y.node_name _ _ one.node other.node version.1 in
    let address = text_unique MAX_TEXT_BYTES (omega arith) x.ip_address y.ip_address _ _ one.address other.address node.1 in
    let names = list_unique bytes_of_text IsNameText name_unique x.names y.names r s one.names other.names address.1 in
    (same_fields x y version.0 node.0 address.0 names.0, names.1)

-- each field was read after the other
module _ (before m1 m2 m3 after : List ℕ) (x : Registration) (one : Reads bytes_of_text (IsText MAX_TEXT_BYTES) before m1 (Ok x.lcm_version)) (two : Reads bytes_of_text (IsText MAX_TEXT_BYTES) m1 m2 (Ok x.node_name))
    (three : Reads bytes_of_text (IsText MAX_TEXT_BYTES) m2 m3 (Ok x.ip_address)) (four : Reads (bytes_of_list bytes_of_text) (IsList IsNameText) m3 after (Ok x.names)) where
  pub fields_read : Reads bytes_of_registration AreFields before after (Ok x)
  fields_read =
      taken bytes_of_registration AreFields before after x fields_unique
      (record { version = one.found.0; node = two.found.0; address = three.found.0; names = four.found.0 })
      (one.found.1
      ∙ ap (λ (l : List ℕ). bytes_of_text x.lcm_version ++ l)
      (two.found.1 ∙ ap (λ (l : List ℕ). bytes_of_text x.node_name ++ l) (three.found.1 ∙ ap (λ (l : List ℕ). bytes_of_text x.ip_address ++ l) four.found.1))
      ∙ sym (opened x after))

pub fields_of : (x : Registration) → IsRegistration x → AreFields x
fields_of x is = record { version = is.version; node = is.node; address = is.address; names = (omega (arith, is.few), is.names) }

-- a registration that may be kept: few names, and all its bytes are no longer than they may be
pub kept_registration : (bytes after : List ℕ) (x : Registration) → AreFields x → bytes ≡ bytes_of_registration x ++ after → after ≡ [] → length x.names ≤ MAX_LIST_ITEMS → length bytes ≤ MAX_BYTES + LENGTHS + 2 * length x.names
    → IsRegistration x × (bytes ≡ bytes_of_registration x)
kept_registration bytes after x are is none few short =
    let whole : bytes ≡ bytes_of_registration x = is ∙ ap (λ (l : List ℕ). bytes_of_registration x ++ l) none ∙ append-nil (bytes_of_registration x) in (
      record {
        version = are.version;
        node = are.node;
        address = are.address;
        few = few;
        names = are.names.1;
        whole = omega (arith, short, ap length whole, length-registration x);
      },
      whole,
    )

module _ {X : Type 0} (f : X → List ℕ) (R : X → Type 0) where
  -- no value was read in front, so none stands there
  pub none_read : (bytes after : List ℕ) (e : FieldError) (x : X) (more : List ℕ) → e ≡ Wrong → Reads f R bytes after (Err e) → R x → bytes ≡ f x ++ more → ⊥
  none_read bytes after e x more same reads range is = (subst (λ (d : FieldError). Reads f R bytes after (Err d)) same reads).only x more range is

-- no registration that may be kept has other names, or is longer
pub none_kept : (bytes after : List ℕ) (x y : Registration) → Reads bytes_of_registration AreFields bytes after (Ok x) → ((after ≡ []) → length x.names ≤ MAX_LIST_ITEMS → length bytes ≤ MAX_BYTES + LENGTHS + 2 * length x.names → ⊥)
    → IsRegistration y → bytes ≡ bytes_of_registration y → ⊥
none_kept bytes after x y reads other is spells =
    let found = reads.only y [] (fields_of y is) (spells ∙ sym (append-nil (bytes_of_registration y))) in
    let names : length x.names ≡ length y.names = ap (λ (r : Registration). length r.names) found.0 in
    other found.1 (omega (arith, names, is.few)) (omega (arith, names, is.whole, ap length spells, length-registration y))

-- ---- one change

pub one_body : BodiesAreOfOne
one_body bytes (Register agent x) other one two =
    let p = register_at (bytes_of_number w128 agent ++ bytes_of_registration x) other (subst (λ (l : List ℕ). IsBody l other) one.is two) in
    let id = long_unique agent p.agent (bytes_of_registration x) (bytes_of_registration p.registration) one.size.0 p.in_range p.spells in
    let whole = fields_unique x p.registration [] [] (fields_of x one.size.1) (fields_of p.registration p.sized)
    (append-nil (bytes_of_registration x) ∙ id.1 ∙ sym (append-nil (bytes_of_registration p.registration))) in
    ap₂ (λ (a : ℕ) (r : Registration). Register a r) id.0 whole.0 ∙ sym p.is
one_body bytes (Report agent job body) other one two =
    let p = report_at (bytes_of_number w128 agent ++ (bytes_of_number w128 job ++ body)) other (subst (λ (l : List ℕ). IsBody l other) one.is two) in
    let id = long_unique agent p.agent (bytes_of_number w128 job ++ body) (bytes_of_number w128 p.job ++ p.body) one.size.0 p.ids.0 (p.spells ∙ ids_opened (p.agent, p.job) p.body) in
    let number = long_unique job p.job body p.body one.size.1 p.ids.1 id.1 in
    ap₂ (λ (a : ℕ) (rest : ℕ × List ℕ). Report a rest.0 rest.1) id.0 (ap₂ (λ (j : ℕ) (b : List ℕ). pair j b) number.0 number.1) ∙ sym p.is
  where
    pair : ℕ → List ℕ → ℕ × List ℕ
    pair j b = (j, b)
