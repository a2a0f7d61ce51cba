-- When what two resources are about meets.
use Rattle.std.proofs.Common.{◌≡◌, ◌↔◌, inl, inr, ℕ, List, [], ◌∷◌, Bool, true, false, not, ◌||◌, cond, ◌==◌, IsTrue, Option, Some, None, Result, Ok, Err, refl, sym, ap, subst, ◌∙◌}
use Rattle.std.specs.List.{join_with_byte, list_any}
use Rattle.std.specs.Option.{option_and_then, option_map}
use Rattle.std.specs.Prelude.{codes, encode_utf8_all}
use Rattle.dsc_outside.specs.Paths.{IsBelow}
use Rattle.std.specs.Result.{IfOk, is_err, result_ok}
use Rattle.std.proofs.lemmas.Bool.{false≢true}
use Rattle.std.proofs.lemmas.Option.{none-some, same_Some}
use Rattle.std.proofs.lemmas.Str.{encodes_same}
use Rattle.mof_values.specs.Fold.{SameName}
use Rattle.mof_values.specs.declared.instance.Instance.{Instance}
use Rattle.mof_values.specs.declared.instance.Property.{Property}
use Rattle.dsc_document.specs.declared.document.Resource.{Resource}
use Rattle.resource_kinds.specs.declared.entry.Failure.{Failure}
use Rattle.resource_kinds.specs.declared.path_order.PathOrder.{PathOrder}
use Rattle.resource_kinds.specs.declared.path_order.PathOrder.TheVariants as orders
use Rattle.resource_kinds.specs.declared.tables.Kind.{Kind}
use Rattle.resource_kinds.specs.declared.wanted.Wanted.{Wanted}
use Rattle.resource_kinds.specs.declared.wanted.Wanted.TheVariants.{File, Folder, NoFile, NoFolder}
use Rattle.resource_kinds.specs.Apart.{IsAround, Matter, MattersMeet, Target, Path, Variable, LogEntry, matter_of}
use Rattle.resource_kinds.specs.PathOrder.{order_of}
use Rattle.resource_kinds.specs.Paths.{if_filled, is_parent, joined_path, kept_segments, names_of, path_of, rooted}
use Rattle.resource_kinds.specs.Subjects.{AsksMeeting, entry_matter, is_closed, matter_at, variable_matter}
use Rattle.mof_values.specs.Values.{text_named}
use Rattle.resource_kinds.specs.Tables.{first_wrong, is_absent, is_directory, key_of, kind_of, rows_of, says_yes}
use Rattle.resource_kinds.specs.Wanted.{by_key, by_table, contents_of, of_kind, on_path, wanted_of}
use Rattle.resource_kinds.proofs.PathOrders.{IsOrder, below_bytes, below_chars, is_order, order_above, order_below, order_same}

-- ---- paths

-- what is answered of two paths by their order
abbrev pub shown : PathOrder → Bool → Bool → Bool
shown orders.Same closed other_closed = true
shown orders.Above closed other_closed = closed
shown orders.Below closed other_closed = other_closed
shown orders.Apart closed other_closed = false

path_same : (x y : List ℕ) → Path x ≡ Path y → x ≡ y
path_same x y same = cc (same)

closed_is : (closed : Bool) (bytes path : List ℕ) → cond closed (Some bytes) None ≡ Some path → (closed ≡ true) × (bytes ≡ path)
closed_is true bytes path is = (refl, same_Some bytes path is)
closed_is false bytes path is = absurd (none-some path is)

around : (a b : List ℕ) (closed other_closed : Bool) → closed ≡ true → IsBelow a b → IsAround (matter_at (encode_utf8_all a) closed) (matter_at (encode_utf8_all b) other_closed)
around a b closed other_closed is below =
    (encode_utf8_all a, encode_utf8_all b, ap (λ test. cond test (Some (encode_utf8_all a)) None) is, refl, below_bytes a b below)

-- the one is around the other: it is closed, and above it
around_is : (a b : List ℕ) (closed other_closed : Bool) → IsAround (matter_at (encode_utf8_all a) closed) (matter_at (encode_utf8_all b) other_closed) → (closed ≡ true) × IsBelow a b
around_is a b closed other_closed is =
    let parts = closed_is closed (encode_utf8_all a) is.0 is.2 in
    (parts.0, below_chars a b (subst (λ x. IsBelow x (encode_utf8_all b)) (sym parts.1) (subst (IsBelow is.0) (sym (path_same (encode_utf8_all b) is.1 is.3)) is.4)))

order_meets : (a b : List ℕ) (closed other_closed : Bool) (order : PathOrder) → IsOrder order a b → IsTrue (shown order closed other_closed)
    → MattersMeet (matter_at (encode_utf8_all a) closed) (matter_at (encode_utf8_all b) other_closed)
order_meets a b closed other_closed orders.Same is holds = inl (ap (λ chars. Path (encode_utf8_all chars)) is)
order_meets a b closed other_closed orders.Above is holds = inr (inl (around a b closed other_closed holds is))
order_meets a b closed other_closed orders.Below is holds = inr (inr (around b a other_closed closed holds is))
order_meets a b closed other_closed orders.Apart is holds = absurd (false≢true holds)

is_above : (a b : List ℕ) → IsBelow a b → order_of a b ≡ orders.Above
is_above a b is = subst (λ x. order_of a x ≡ orders.Above) (sym is.1) (order_above a is.0)

is_beneath : (a b : List ℕ) → IsBelow b a → order_of a b ≡ orders.Below
is_beneath a b is = subst (λ x. order_of x b ≡ orders.Below) (sym is.1) (order_below b is.0)

is_same : (a b : List ℕ) → a ≡ b → order_of a b ≡ orders.Same
is_same a b same = subst (λ x. order_of a x ≡ orders.Same) same (order_same a)

meets_order : (a b : List ℕ) (closed other_closed : Bool) → MattersMeet (matter_at (encode_utf8_all a) closed) (matter_at (encode_utf8_all b) other_closed)
    → IsTrue (shown (order_of a b) closed other_closed)
meets_order a b closed other_closed (inl same) =
    ap (λ order. shown order closed other_closed) (is_same a b (encodes_same a b (path_same (encode_utf8_all a) (encode_utf8_all b) same)))
meets_order a b closed other_closed (inr (inl outside)) =
    let parts = around_is a b closed other_closed outside in
    ap (λ order. shown order closed other_closed) (is_above a b parts.1) ∙ parts.0
meets_order a b closed other_closed (inr (inr inside)) =
    let parts = around_is b a other_closed closed inside in
    ap (λ order. shown order closed other_closed) (is_beneath a b parts.1) ∙ parts.0

pub paths_met : (a b : List ℕ) (closed other_closed : Bool) (order : PathOrder) → order ≡ order_of a b
    → IsTrue (shown order closed other_closed) ↔ MattersMeet (matter_at (encode_utf8_all a) closed) (matter_at (encode_utf8_all b) other_closed)
paths_met a b closed other_closed order is = (
  order_meets a b closed other_closed order (subst (λ o. IsOrder o a b) (sym is) (is_order a b)),
  λ meet. ap (λ o. shown o closed other_closed) is ∙ meets_order a b closed other_closed meet,
)

-- ---- variables and entries

abbrev about : Target → Matter
about target = record { target = target; closed = None }

-- where neither has a closed path, the targets are the same
same_target : (a b : Target) → MattersMeet (about a) (about b) → a ≡ b
same_target a b (inl same) = same
same_target a b (inr (inl is)) = absurd (none-some is.0 is.2)
same_target a b (inr (inr is)) = absurd (none-some is.0 is.2)

variable_same : (x y : List ℕ) → Variable x ≡ Variable y → x ≡ y
variable_same x y same = cc (same)

entry_same : (x y i j : List ℕ) → LogEntry x i ≡ LogEntry y j → (x ≡ y) × (i ≡ j)
entry_same x y i j same =
    let ids : x ≡ y = cc (same) in
    let messages : i ≡ j = cc (same) in
    (ids, messages)

pub same_names_meet : (name other : List ℕ) → SameName name other → MattersMeet (variable_matter name) (variable_matter other)
same_names_meet name other same = inl (ap (λ folded. Variable (encode_utf8_all folded)) same)

pub met_names_same : (name other : List ℕ) → MattersMeet (variable_matter name) (variable_matter other) → SameName name other
met_names_same name other meet = encodes_same _ _ (variable_same _ _ (same_target _ _ meet))

pub entries_met : (id other_id message other : List ℕ) (same : Bool) → message ≡ other → IsTrue same ↔ SameName id other_id → IsTrue same ↔ MattersMeet (entry_matter id message) (entry_matter other_id other)
entries_met id other_id message other same messages is = (
  λ holds. inl (λ i. LogEntry (encode_utf8_all (is.0 holds i)) (encode_utf8_all (messages i))),
  λ meet. is.1 (encodes_same _ _ (entry_same _ _ _ _ (same_target _ _ meet)).0),
)

pub entries_unmet : (id other_id message other : List ℕ) (same : Bool) → same ≡ false → (message ≡ other → ⊥) → IsTrue same ↔ MattersMeet (entry_matter id message) (entry_matter other_id other)
entries_unmet id other_id message other same fails differ = (
  λ holds. absurd (false≢true (sym fails ∙ holds)),
  λ meet. absurd (differ (encodes_same message other (entry_same _ _ _ _ (same_target _ _ meet)).1)),
)

-- ---- what a resource is about

standing_matter : (path : List ℕ) (forced : Bool) (contents : Option (List ℕ)) (directory absent : Bool)
    → matter_at path (absent || not directory) ≡ matter_of (cond directory (cond absent (NoFolder path forced) (Folder path)) (cond absent (NoFile path) (File path contents)))
standing_matter path forced contents true true = refl
standing_matter path forced contents true false = refl
standing_matter path forced contents false true = refl
standing_matter path forced contents false false = refl

module _ (instance : Instance) (chars : List ℕ) where
  -- the matter is that of what is asked for
  abbrev IsMatter : Wanted → Type 0
  IsMatter wanted = Some (matter_at (encode_utf8_all chars) (is_closed instance)) ≡ Some (matter_of wanted)

  of_names : (names : List (List ℕ)) → chars ≡ join_with_byte 47 names → IfOk (on_path instance (option_map joined_path (if_filled names))) IsMatter
  of_names [] spelled = tt
  of_names (name ∷ names) spelled =
      ap (λ x. Some (matter_at (encode_utf8_all x) (is_closed instance))) spelled
      ∙ ap Some (standing_matter (joined_path (name ∷ names)) (says_yes (codes "Force") instance) (contents_of instance) (is_directory instance) (is_absent instance))

  of_segments : (all : List (List ℕ)) (parent : Bool) → chars ≡ join_with_byte 47 (kept_segments all)
      → IfOk (on_path instance (option_map joined_path (cond parent None (if_filled (kept_segments all))))) IsMatter
  of_segments all true spelled = tt
  of_segments all false spelled = of_names (kept_segments all) spelled

  of_text : (nul : Bool) (found : Option (List (List ℕ))) → Some chars ≡ option_map (λ all. join_with_byte 47 (kept_segments all)) found
      → IfOk (on_path instance (option_map joined_path (cond nul None (option_and_then names_of found)))) IsMatter
  of_text true found spelled = tt
  of_text false None spelled = tt
  of_text false (Some all) spelled = of_segments all (list_any is_parent all) (same_Some chars _ spelled)

  pub path_is_matter : (text : List ℕ) → Some chars ≡ option_map (λ all. join_with_byte 47 (kept_segments all)) (rooted text) → IfOk (on_path instance (path_of text)) IsMatter
  path_is_matter text spelled = of_text (list_any (λ c. c == 0) text) (rooted text) spelled

-- ---- what is asked for by the key

by_first : (P : Wanted → Type 0) (kind : Kind) (resource : Resource) (text : List ℕ) (wrong : Option Property) → IfOk (by_key kind resource text) P → IfOk (by_table kind resource wrong (Some text)) P
by_first P kind resource text None is = is
by_first P kind resource text (Some property) is = tt

pub wanted_by_key : (P : Wanted → Type 0) (kind : Kind) (resource : Resource) (text : List ℕ) → kind_of resource.instance ≡ Some kind
    → text_named (key_of kind) resource.instance ≡ Some text → IfOk (by_key kind resource text) P → IfOk (wanted_of resource) P
wanted_by_key P kind resource text has_kind has_key is =
    subst (λ found. IfOk (of_kind found resource) P) (sym has_kind)
    (subst (λ found. IfOk (by_table kind resource (first_wrong (rows_of kind resource.instance) resource.instance) found) P) (sym has_key)
    (by_first P kind resource text (first_wrong (rows_of kind resource.instance) resource.instance) is))

-- ---- a resource without a fault

pub sound_matter : (asks : Result Wanted Failure) (named : Option Matter) → IfOk asks (λ wanted. named ≡ Some (matter_of wanted)) → is_err asks ≡ false → named ≡ option_map matter_of (result_ok asks)
sound_matter (Ok wanted) named is sound = is
sound_matter (Err failure) named is sound = absurd (false≢true (sym sound))

own_matter : (own : Matter) (named : Option Matter) (wanted : Wanted) → named ≡ Some own → named ≡ Some (matter_of wanted) → own ≡ matter_of wanted
own_matter own named wanted known is = same_Some own (matter_of wanted) (sym known ∙ is)

module _ (own subject : Matter) (named : Option Matter) (known : named ≡ Some own) (met : Bool) (answers : IsTrue met ↔ MattersMeet own subject) where
  pub asks_if_sound : (asks : Result Wanted Failure) (fault : Bool) → IfOk asks (λ wanted. named ≡ Some (matter_of wanted)) → met ≡ true → fault ≡ is_err asks
      → IsTrue (not fault) ↔ AsksMeeting (result_ok asks) subject
  asks_if_sound (Ok wanted) fault is holds sound =
      (λ _. subst (λ m. MattersMeet m subject) (own_matter own named wanted known is) (answers.0 holds), λ _. ap not sound)
  asks_if_sound (Err failure) fault is holds sound = (λ fails. absurd (false≢true (sym (ap not sound) ∙ fails)), λ meet. absurd meet)

  pub asks_nothing : (asks : Result Wanted Failure) → IfOk asks (λ wanted. named ≡ Some (matter_of wanted)) → met ≡ false → IsTrue met ↔ AsksMeeting (result_ok asks) subject
  asks_nothing (Ok wanted) is fails = subst (λ m. IsTrue met ↔ MattersMeet m subject) (own_matter own named wanted known is) answers
  asks_nothing (Err failure) is fails = (λ holds. absurd (false≢true (sym fails ∙ holds)), λ meet. absurd meet)
