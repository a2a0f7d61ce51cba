-- Meta-configurations that are read are well-formed.
use Rattle.std.proofs.Common.{◌≡◌, ℕ, zero, suc, ◌+◌, ◌<◌, Bool, true, false, cond, not, ◌&&◌, ◌||◌, nat_lt, nat_le, List, [], ◌∷◌, ◌++◌, length, take, drop, Option, Some, None, option_map, option_and_then, unwrap_or, is_none, find, map, filter, codes, refl, sym, ap, subst, ◌∙◌, arith, pos, negsuc}
use Rattle.std.specs.Prelude.{IfSome, count_by}
use Rattle.std.specs.List.{AllByRecursion, list_any}
use Rattle.std.specs.Option.{option_map_or}
use Rattle.std.specs.Str.{all_scalars}
use Rattle.std.proofs.lemmas.Bool.{and_parts}
use Rattle.std.proofs.lemmas.Bool.Decides.{nat_tests}
use Rattle.std.proofs.lemmas.List.{length-map}
use Rattle.std.proofs.lemmas.List.Sums.{sum_by-cons}
use Rattle.std.proofs.lemmas.Option.{none-some}
use lib.Utf8.{scalar}
use Rattle.mof_values.specs.declared.instance.Instance.{Instance}
use Rattle.mof_values.specs.declared.instance.Property.{Property}
use Rattle.mof_values.specs.declared.value.Scalar.TheVariants as scalars
use Rattle.mof_values.specs.declared.value.Value.{Value}
use Rattle.mof_values.specs.declared.value.Value.TheVariants.{One, Many}
use Rattle.mof_syntax.specs.Limits.{InstanceFits, PropertyFits, ValueFits}
use Rattle.mof_codec.specs.Written.{AreChars}
use Rattle.mof_values.specs.Fold.{same_name}
use Rattle.mof_values.specs.Values.{text_of}
use Rattle.meta_config.specs.declared.error.MetaError.{MetaError}
use Rattle.meta_config.specs.declared.meta.Meta.{Meta}
use Rattle.meta_config.specs.declared.meta.Partial.{Partial}
use Rattle.meta_config.specs.declared.server.Site.{Site}
use Rattle.meta_config.specs.declared.tables.Class.{Class}
use Rattle.meta_config.specs.declared.tables.Class.TheVariants as classes
use Rattle.meta_config.specs.declared.tables.Domain.TheVariants as domains
use Rattle.meta_config.specs.Making.{depends_of, first_filled, has, key_given, key_of, meta_of, names_of, partial_of, properties_of, server_at, site_given, text_given, with_name, with_names}
use Rattle.meta_config.specs.Properties.{given, texts_of}
use Rattle.meta_config.specs.Refusals.{Means, bad_url, bad_value, depends_unknown, duplicate_partial, first_of, has_bad_url, is_partial_named, refusals_of, too_long, too_many_names, too_many_partials, unknown_in}
use Rattle.meta_config.specs.Tables.{download_rows, first_wrong, is_manager, is_of, partial_rows, report_rows, resource_rows, settings_rows, wrong_in, wrong_in_partial}
use Rattle.meta_config.specs.Urls.{site_named}
use Rattle.meta_config.specs.Words.{fits, is_name, is_reference, minutes_of, name_of_reference}
use Rattle.meta_config.specs.Writing.{text_of_meta}
use Rattle.meta_config.proofs.Apart.{AreApart, apart_from, known_in, parts_of}
use Rattle.meta_config.proofs.CharsRead.{InstanceTexts, ValueTexts, texts_read}
use Rattle.meta_config.proofs.GivenValues.{class_is, given_has, given_text, properties_have, row_fits, rows_none, texts_chars, texts_count, texts_test}
use Rattle.meta_config.proofs.Searches.{cond_none, each_both, each_weaker, find_none, found_has, found_none, map_none, no_any, or_none, position_none}
use Rattle.meta_config.proofs.WellFormed.{HasManagers, IsNameText, IsPart, IsWellFormed, is_known}
use Rattle.meta_config.proofs.WrittenUrls.{IsSite, site_is}
use Rattle.meta_config.specs.declared.limits.TheConstants.{MAX_META_TEXT, MAX_NAMES, MAX_PARTIALS}

-- ---- what is not refused

pub firsts_none : (os : List (Option MetaError)) → first_of os ≡ None → AllByRecursion (λ o. o ≡ None) os
firsts_none [] e = tt
firsts_none (o ∷ os) e = let b = or_none o (first_of os) e in (b.0, firsts_none os b.1)

test_none : (b : Bool) (e : MetaError) → cond b None (Some e) ≡ None → b ≡ true
test_none true e h = refl
test_none false e h = cc

urls_named : (is : List Instance) → bad_url is ≡ None → AllByRecursion (λ i. has_bad_url i ≡ false) is
unfolding bad_url
urls_named is e = position_none has_bad_url 0 is (map_none _ _ e)

values_fit : (is : List Instance) → bad_value is ≡ None → AllByRecursion (λ i. wrong_in i ≡ None) is
unfolding bad_value
values_fit is e = found_none wrong_in 0 is (map_none _ _ e)

few_partials : (is : List Instance) → too_many_partials is ≡ None → nat_le (count_by (is_of classes.Partial) is) MAX_PARTIALS ≡ true
unfolding too_many_partials
few_partials is e = test_none _ _ e

few_names : (is : List Instance) → too_many_names is ≡ None → nat_le (length (names_of is)) MAX_NAMES ≡ true
unfolding too_many_names
few_names is e = test_none _ _ e

short_text : (meta : Meta) → too_long meta ≡ None → nat_le (length (text_of_meta meta)) MAX_META_TEXT ≡ true
unfolding too_long
short_text meta e = test_none _ _ e

no_duplicate_apart : (is : List Instance) → duplicate_partial is ≡ None → AreApart [] (parts_of is)
unfolding duplicate_partial
no_duplicate_apart is e = apart_from [] is is 0 refl refl (map_none _ _ e)

depends_known : (is : List Instance) → depends_unknown is ≡ None → AllByRecursion (λ i. unknown_in is i ≡ None) is
unfolding depends_unknown
depends_known is e = found_none (unknown_in is) 0 is (map_none _ _ e)

-- ---- partial configurations of instances

each_at : (P : Partial → Type 0) (i : Instance) (is : List Instance) (b : Bool) → is_of classes.Partial i ≡ b → (is_of classes.Partial i ≡ true → P (partial_of i)) → AllByRecursion P (parts_of is)
    → AllByRecursion P (map partial_of (cond b (i ∷ filter (is_of classes.Partial) is) (filter (is_of classes.Partial) is)))
each_at P i is true e one more = (one e, more)
each_at P i is false e one more = more

pub parts_each : (P : Partial → Type 0) (Q : Instance → Type 0) → ((i : Instance) → is_of classes.Partial i ≡ true → Q i → P (partial_of i))
    → (is : List Instance) → AllByRecursion Q is → AllByRecursion P (parts_of is)
parts_each P Q each [] all = tt
parts_each P Q each (i ∷ is) all = each_at P i is (is_of classes.Partial i) refl (λ e. each i e all.0) (parts_each P Q each is all.1)

count_at : (i : Instance) (is : List Instance) (b : Bool) → count_by (is_of classes.Partial) is ≡ length (parts_of is)
    → cond b 1 0 + count_by (is_of classes.Partial) is ≡ length (map partial_of (cond b (i ∷ filter (is_of classes.Partial) is) (filter (is_of classes.Partial) is)))
count_at i is true more = omega (arith, more)
count_at i is false more = omega (arith, more)

pub parts_count : (is : List Instance) → count_by (is_of classes.Partial) is ≡ length (parts_of is)
parts_count [] = refl
parts_count (i ∷ is) = sum_by-cons (λ (x : Instance). cond (is_of classes.Partial x) 1 0) i is ∙ count_at i is (is_of classes.Partial i) (parts_count is)

-- ---- the table of a class

pick : (a b c d e : Bool) → (u v w x y : Option (List ℕ)) → Option (List ℕ)
pick a b c d e u v w x y = cond a u (cond b v (cond c w (cond d x (cond e y None))))

wrong_download : (i : Instance) → is_of classes.Download i ≡ true → wrong_in i ≡ first_wrong download_rows i.properties
unfolding pick
wrong_download i is =
    let ps = i.properties in
    λ k. pick (class_is classes.Download classes.Settings i is k) (is k) (is_of classes.Report i) (is_of classes.Resource i) (is_of classes.Partial i)
    (first_wrong settings_rows ps) (first_wrong download_rows ps) (first_wrong report_rows ps) (first_wrong resource_rows ps) (wrong_in_partial ps)

wrong_partial : (i : Instance) → is_of classes.Partial i ≡ true → wrong_in i ≡ wrong_in_partial i.properties
unfolding pick
wrong_partial i is =
    let ps = i.properties in
    λ k. pick (class_is classes.Partial classes.Settings i is k) (class_is classes.Partial classes.Download i is k) (class_is classes.Partial classes.Report i is k) (class_is classes.Partial classes.Resource i is k) (is k)
    (first_wrong settings_rows ps) (first_wrong download_rows ps) (first_wrong report_rows ps) (first_wrong resource_rows ps) (wrong_in_partial ps)

-- ---- an instance that is read

pub record IsRead (i : Instance) : Type 0 where
  pub right : wrong_in i ≡ None
  pub texts : InstanceTexts i
  pub sizes : AllByRecursion (λ (p : Property). ValueFits p.value) i.properties

sizes_of : (i : Instance) → InstanceFits i → AllByRecursion (λ (p : Property). ValueFits p.value) i.properties
sizes_of i f = each_weaker PropertyFits (λ (p : Property). ValueFits p.value) (λ p h. h.value) i.properties f.each

chars_drop : (n : ℕ) (cs : List ℕ) → AreChars cs → AreChars (drop n cs)
chars_drop zero cs all = all
chars_drop (suc n) [] all = all
chars_drop (suc n) (c ∷ cs) all = chars_drop n cs (and_parts (scalar c) (all_scalars cs) all).1

name_in : (text : List ℕ) → is_reference text ≡ true → is_name (drop 22 text) ≡ true
name_in text e = (and_parts (same_name (take 22 text) (codes "[PartialConfiguration]")) (is_name (drop 22 text)) e).1

named_by : (v : Value) → fits domains.Reference v ≡ true → is_name (drop 22 (unwrap_or (text_of v) [])) ≡ true
named_by (One (scalars.Text text)) e = name_in text e
named_by (One (scalars.Integer z)) e = cc
named_by (One (scalars.Bool b)) e = cc
named_by (One scalars.Null) e = cc
named_by (One (scalars.Alias name)) e = cc
named_by (Many ss) e = cc

reference_name : (o : Option Value) → is_none o ≡ false → IfSome o (λ v. fits domains.Reference v ≡ true) → is_name (drop 22 (unwrap_or (option_and_then text_of o) [])) ≡ true
reference_name None some all = cc
reference_name (Some v) some all = named_by v all

references : (texts : List (List ℕ)) → AllByRecursion (λ t. (is_reference t ≡ true) × AreChars t) texts → AllByRecursion IsNameText (map name_of_reference texts)
references [] all = tt
references (t ∷ ts) all = (record { sized = name_in t all.0.0; chars = chars_drop 22 t all.0.1 }, references ts all.1)

pub part_is : (i : Instance) → is_of classes.Partial i ≡ true → IsRead i → IsPart (partial_of i)
part_is i is r =
    let ps = i.properties in
    let w = cond_none (is_none (given (codes "ResourceID") ps)) (codes "ResourceID") (first_wrong partial_rows ps) (sym (wrong_partial i is) ∙ r.right) in
    let rows = (rows_none None partial_rows ps w.1).1 in
    let depends = given (codes "DependsOn") ps in
    let exclusive = given (codes "ExclusiveResources") ps in
    let id = given (codes "ResourceID") ps in
    record {
      name = record {
        sized = reference_name id w.0 (row_fits _ ps rows.0);
        chars = chars_drop 22 (unwrap_or (option_and_then text_of id) []) (given_text id (given_has ValueTexts (codes "ResourceID") ps r.texts));
      };
      depends = references (texts_of depends)
          (each_both (λ t. is_reference t ≡ true) AreChars (texts_of depends) (texts_test is_reference depends (row_fits _ ps rows.1.0))
          (texts_chars depends (given_has ValueTexts (codes "DependsOn") ps r.texts)));
      few_depends = omega (arith, length-map (texts_of depends) name_of_reference, texts_count depends (given_has ValueFits (codes "DependsOn") ps r.sizes));
      exclusive = texts_chars exclusive (given_has ValueTexts (codes "ExclusiveResources") ps r.texts);
      few_exclusive = texts_count exclusive (given_has ValueFits (codes "ExclusiveResources") ps r.sizes);
    }

-- ---- names

names_push : (kept xs : List (List ℕ)) (x : List ℕ) → with_names kept (xs ++ x ∷ []) ≡ with_name (with_names kept xs) x
names_push kept [] x = refl
names_push kept (y ∷ ys) x = names_push (with_name kept y) ys x

pushed_once_at : (kept : List (List ℕ)) (name : List ℕ) (b : Bool) → list_any (same_name name) kept ≡ b → with_names [] kept ≡ kept
    → with_names [] (cond b kept (kept ++ name ∷ [])) ≡ cond b kept (kept ++ name ∷ [])
pushed_once_at kept name true e so_far = so_far
pushed_once_at kept name false e so_far =
    names_push [] kept name
    ∙ ap (λ l. with_name l name) so_far
    ∙ ap (λ b. cond b kept (kept ++ name ∷ [])) e

once : (kept names : List (List ℕ)) → with_names [] kept ≡ kept → with_names [] (with_names kept names) ≡ with_names kept names
once kept [] so_far = so_far
once kept (name ∷ names) so_far = once (with_name kept name) names (pushed_once_at kept name (list_any (same_name name) kept) refl so_far)

push_each : (P : List ℕ → Type 0) (kept : List (List ℕ)) (name : List ℕ) → AllByRecursion P kept → P name → AllByRecursion P (kept ++ name ∷ [])
push_each P [] name all one = (one, tt)
push_each P (k ∷ kept) name all one = (all.0, push_each P kept name all.1 one)

kept_at : (P : List ℕ → Type 0) (kept : List (List ℕ)) (name : List ℕ) (b : Bool) → AllByRecursion P kept → P name → AllByRecursion P (cond b kept (kept ++ name ∷ []))
kept_at P kept name true all one = all
kept_at P kept name false all one = push_each P kept name all one

kept_each : (P : List ℕ → Type 0) (kept names : List (List ℕ)) → AllByRecursion P kept → AllByRecursion P names → AllByRecursion P (with_names kept names)
kept_each P kept [] all more = all
kept_each P kept (name ∷ names) all more =
    kept_each P (with_name kept name) names (kept_at P kept name (list_any (same_name name) kept) all more.0) more.1

abbrev name_texts : List Property → List (List ℕ)
name_texts ps = texts_of (given (codes "ConfigurationNames") ps)

joined_names : (texts : List (List ℕ)) → AllByRecursion (λ t. is_name t ≡ true) texts → AllByRecursion AreChars texts → AllByRecursion IsNameText texts
joined_names [] a b = tt
joined_names (t ∷ ts) a b = (record { sized = a.0; chars = b.0 }, joined_names ts a.1 b.1)

names_of_download : (i : Instance) → is_of classes.Download i ≡ true → IsRead i → AllByRecursion IsNameText (name_texts i.properties)
names_of_download i is r =
    let ps = i.properties in
    let rows = (rows_none None download_rows ps (sym (wrong_download i is) ∙ r.right)).1 in
    let names = given (codes "ConfigurationNames") ps in
    joined_names (texts_of names) (texts_test is_name names (row_fits _ ps rows.1.1.0)) (texts_chars names (given_has ValueTexts (codes "ConfigurationNames") ps r.texts))

pub names_read : (is : List Instance) → AllByRecursion IsRead is → AllByRecursion IsNameText (names_of is)
names_read is all =
    kept_each IsNameText [] (name_texts (properties_of classes.Download is)) tt
    (properties_have classes.Download IsRead (λ ps. AllByRecursion IsNameText (name_texts ps)) tt names_of_download is all)

-- ---- minutes

minutes_at : (n d : ℕ) (b : Bool) → nat_lt n 4294967296 ≡ b → d < 4294967296 → unwrap_or (cond b (Some n) None) d < 4294967296
minutes_at n d true e small = grind (arith, nat_tests)
minutes_at n d false e small = small

minutes_in : (v : Value) (d : ℕ) → d < 4294967296 → unwrap_or (minutes_of v) d < 4294967296
minutes_in (One (scalars.Text text)) d small = small
minutes_in (One (scalars.Integer (pos n))) d small = minutes_at n d (nat_lt n 4294967296) refl small
minutes_in (One (scalars.Integer (negsuc n))) d small = small
minutes_in (One (scalars.Bool b)) d small = small
minutes_in (One scalars.Null) d small = small
minutes_in (One (scalars.Alias name)) d small = small
minutes_in (Many ss) d small = small

minutes_small : (o : Option Value) (d : ℕ) → d < 4294967296 → unwrap_or (option_and_then minutes_of o) d < 4294967296
minutes_small None d small = small
minutes_small (Some v) d small = minutes_in v d small

-- ---- managers

any_find : (t : Instance → Bool) (is : List Instance) → list_any t is ≡ false → find t is ≡ None
any_find t [] e = refl
any_find t (i ∷ is) e = at (t i) e (any_find t is)
  where
    at : (b : Bool) → (b || list_any t is) ≡ false → (list_any t is ≡ false → find t is ≡ None) → cond b (Some i) (find t is) ≡ None
    at true h more = cc
    at false h more = more h

no_properties : (class : Class) (is : List Instance) → has class is ≡ false → properties_of class is ≡ []
no_properties class is e = ap (λ o. option_map_or (λ (i : Instance). i.properties) o []) (any_find (is_of class) is e)

no_names : (is : List Instance) → has classes.Download is ≡ false → names_of is ≡ []
no_names is e = ap (λ ps. with_names [] (name_texts ps)) (no_properties classes.Download is e)

no_key : (is : List Instance) → has classes.Download is ≡ false → has classes.Report is ≡ false → key_of is ≡ []
no_key is e f = λ k. first_filled (key_given (no_properties classes.Download is e k)) (key_given (no_properties classes.Report is f k))

key_chars : (ps : List Property) → AllByRecursion (λ (p : Property). ValueTexts p.value) ps → AreChars (key_given ps)
key_chars ps all = given_text (given (codes "RegistrationKey") ps) (given_has ValueTexts (codes "RegistrationKey") ps all)

filled_chars : (a b : List ℕ) → AreChars a → AreChars b → AreChars (first_filled a b)
filled_chars [] b one other = other
filled_chars (c ∷ cs) b one other = one

pub key_read : (is : List Instance) → AllByRecursion IsRead is → AreChars (key_of is)
key_read is all =
    filled_chars (key_given (properties_of classes.Download is)) (key_given (properties_of classes.Report is))
    (properties_have classes.Download IsRead (λ ps. AreChars (key_given ps)) refl (λ i e r. key_chars i.properties r.texts) is all)
    (properties_have classes.Report IsRead (λ ps. AreChars (key_given ps)) refl (λ i e r. key_chars i.properties r.texts) is all)

or_false : (a b c : Bool) → (a || (b || c)) ≡ false → (a ≡ false) × (b ≡ false)
or_false true b c e = cc
or_false false true c e = cc
or_false false false c e = (refl, refl)

site_of_text : (o : Option (List ℕ)) (site : Site) → option_and_then site_named o ≡ Some site → IsSite site
site_of_text None site e = absurd (none-some site e)
site_of_text (Some text) site e = site_is text site e

managed_at : (is : List Instance) → AllByRecursion IsRead is → (m : Instance) (o : Option Site) → site_given m.properties ≡ o → is_none o ≡ false
    → HasManagers (option_map (server_at (key_of is)) o) (has classes.Download is) (has classes.Report is) (names_of is)
managed_at is all m None e some = cc
managed_at is all m (Some site) e some =
    (record { site = site_of_text (text_given (codes "ServerURL") m.properties) site e; key = key_read is all }, no_names is, no_key is)

not_bad : (a b : Bool) → a ≡ true → (a && b) ≡ false → b ≡ false
not_bad a b is e = ap (λ t. t && b) (sym is) ∙ e

managers_at : (is : List Instance) → AllByRecursion IsRead is → AllByRecursion (λ i. has_bad_url i ≡ false) is → (o : Option Instance) → find is_manager is ≡ o
    → HasManagers (option_map (server_at (key_of is)) (option_and_then (λ (i : Instance). site_given i.properties) o)) (has classes.Download is) (has classes.Report is) (names_of is)
managers_at is all urls None e =
    let none = find_none is_manager is e in
    let download : has classes.Download is ≡ false = no_any (is_of classes.Download) is (each_weaker _ _ (λ i h. (or_false (is_of classes.Download i) (is_of classes.Report i) (is_of classes.Resource i) h).0) is none) in
    let report : has classes.Report is ≡ false = no_any (is_of classes.Report) is (each_weaker _ _ (λ i h. (or_false (is_of classes.Download i) (is_of classes.Report i) (is_of classes.Resource i) h).1) is none) in
    (download, report, no_names is download)
managers_at is all urls (Some m) e =
    let f = found_has is_manager (λ i. has_bad_url i ≡ false) is m urls e in
    managed_at is all m (site_given m.properties) refl (not_bad (is_manager m) (is_none (site_given m.properties)) f.1 f.0)

-- ---- the whole

not_false : (b : Bool) → not b ≡ false → b ≡ true
not_false true e = refl
not_false false e = cc

depends_known_at : (is : List Instance) (i : Instance) (b : Bool) → b ≡ true → cond b (find (λ name. not (list_any (is_partial_named name) is)) (depends_of i.properties)) None ≡ None
    → AllByRecursion (λ name. is_known (parts_of is) name ≡ true) (depends_of i.properties)
depends_known_at is i true e none =
    each_weaker _ _ (λ name h. sym (known_in name is) ∙ not_false (list_any (is_partial_named name) is) h) (depends_of i.properties)
    (find_none (λ name. not (list_any (is_partial_named name) is)) (depends_of i.properties) none)
depends_known_at is i false e none = cc

pub record AreAccepted (is : List Instance) : Type 0 where
  pub urls : AllByRecursion (λ i. has_bad_url i ≡ false) is
  pub read : AllByRecursion IsRead is
  pub few_names : nat_le (length (names_of is)) MAX_NAMES ≡ true
  pub few_partials : nat_le (length (parts_of is)) MAX_PARTIALS ≡ true
  pub short : nat_le (length (text_of_meta (meta_of is))) MAX_META_TEXT ≡ true
  pub apart : AreApart [] (parts_of is)
  pub known : AllByRecursion (λ i. unknown_in is i ≡ None) is

all_read : (is : List Instance) → AllByRecursion (λ i. wrong_in i ≡ None) is → AllByRecursion InstanceTexts is → AllByRecursion InstanceFits is → AllByRecursion IsRead is
all_read [] a b c = tt
all_read (i ∷ is) a b c = (record { right = a.0; texts = b.0; sizes = sizes_of i c.0 }, all_read is a.1 b.1 c.1)

accepted : (bytes : List ℕ) (meta : Meta) (m : Means bytes meta) → AreAccepted m.instances
accepted bytes meta m =
    let is = m.instances in
    let none = firsts_none (refusals_of is) m.accepted in
    let urls = none.1.1.1.1 in
    let values = urls.1.1 in
    record {
      urls = urls_named is urls.0;
      read = all_read is (values_fit is values.0) (texts_read bytes is m.read) m.read.spelled.limits.each;
      few_partials = ap (λ n. nat_le n MAX_PARTIALS) (sym (parts_count is)) ∙ few_partials is values.1.0;
      few_names = few_names is values.1.1.0;
      short = short_text (meta_of is) values.1.1.1.0;
      apart = no_duplicate_apart is values.1.1.1.1.0;
      known = depends_known is values.1.1.1.1.1.0;
    }

made_well : (is : List Instance) → AreAccepted is → IsWellFormed (meta_of is)
made_well is a = record {
  mode_mins = minutes_small (given (codes "ConfigurationModeFrequencyMins") (properties_of classes.Settings is)) 15 (omega arith);
  refresh_mins = minutes_small (given (codes "RefreshFrequencyMins") (properties_of classes.Settings is)) 30 (omega arith);
  managers = managers_at is a.read a.urls (find is_manager is) refl;
  names = names_read is a.read;
  names_once = once [] (name_texts (properties_of classes.Download is)) refl;
  few_names = a.few_names;
  partials = parts_each IsPart IsRead part_is is a.read;
  few_partials = a.few_partials;
  apart = a.apart;
  known = parts_each (λ (p : Partial). AllByRecursion (λ name. is_known (parts_of is) name ≡ true) p.depends) (λ i. unknown_in is i ≡ None)
      (λ i e none. depends_known_at is i (is_of classes.Partial i) e none) is a.known;
  short = a.short;
}

-- a meta-configuration that bytes declare is well-formed
pub read_is_well_formed : (bytes : List ℕ) (meta : Meta) → Means bytes meta → IsWellFormed meta
read_is_well_formed bytes meta m = subst IsWellFormed (sym m.made) (made_well m.instances (accepted bytes meta m))
