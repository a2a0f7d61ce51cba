-- Names joined to a path, one after another, and names that are kept of segments.
use Rattle.std.proofs.Common.{◌≡◌, ℕ, ◌<◌, List, [], ◌∷◌, ◌++◌, length, ◌≢◌, true, false, not, ◌||◌, ◌&&◌, cond, nat_eq, Option, Some, None, map, Bor, refl, sym, ap, ◌∙◌, append_assoc, arith, length-append}
use Rattle.std.specs.List.{All, join_with_byte, list_any}
use Rattle.std.specs.Option.{is_some, option_map, IfSome}
use Rattle.std.specs.Str.{encode_utf8_all}
use Rattle.std.proofs.lemmas.Bool.{and_right, ne_eqb}
use Rattle.std.proofs.lemmas.List.{map-append}
use Rattle.std.proofs.lemmas.List.Elements.{All-cons, All-head, All-nil, filter_passes}
use Rattle.std.proofs.lemmas.Str.{encodes-append, length-le-encodes}
use Rattle.resource_kinds.specs.Paths.{drive_segments, if_filled, is_kept, is_parent, joined_path, kept_segments, names_of, put}

-- ---- names joined

join_more : (names : List (List ℕ)) (name : List ℕ) → 0 < length names → join_with_byte 47 (names ++ name ∷ []) ≡ join_with_byte 47 names ++ (47 ∷ name)
join_more [] name some = absurd (omega arith)
join_more (one ∷ []) name some = refl
join_more (one ∷ two ∷ more) name some =
    ap (λ cs. one ++ (47 ∷ cs)) (join_more (two ∷ more) name (omega arith)) ∙ sym (append_assoc one (47 ∷ join_with_byte 47 (two ∷ more)) (47 ∷ name))

pub kept_filled : (name : List ℕ) → is_kept name ≡ true → 0 < length name
kept_filled [] kept = absurd (cc (kept))
kept_filled (c ∷ cs) kept = omega arith

-- the path of some names is not empty
joined_filled : (names : List (List ℕ)) → 0 < length names → All (λ name. is_kept name ≡ true) names → 0 < length (joined_path names)
joined_filled [] some kept = absurd (omega arith)
joined_filled (one ∷ []) some kept = omega (arith, kept_filled one (All-head (λ name. is_kept name ≡ true) one [] kept), length-le-encodes one)
joined_filled (one ∷ two ∷ more) some kept =
    let text : List ℕ = one ++ (47 ∷ join_with_byte 47 (two ∷ more)) in
    omega (arith, kept_filled one (All-head (λ name. is_kept name ≡ true) one (two ∷ more) kept), length-le-encodes text, length-append one (47 ∷ join_with_byte 47 (two ∷ more)))

put_filled : (path name : List ℕ) → 0 < length path → put path name ≡ path ++ encode_utf8_all (47 ∷ name)
unfolding lib.Utf8.encode
put_filled [] name some = absurd (omega arith)
put_filled (b ∷ bs) name some = append_assoc (b ∷ bs) (47 ∷ []) (encode_utf8_all name)

-- one more name is put after the path of those before it
joined_put : (names : List (List ℕ)) (name : List ℕ) → All (λ n. is_kept n ≡ true) names → put (joined_path names) name ≡ joined_path (names ++ name ∷ [])
joined_put [] name kept = refl
joined_put (one ∷ more) name kept =
    put_filled (joined_path (one ∷ more)) name (joined_filled (one ∷ more) (omega arith) kept)
    ∙ sym (encodes-append (join_with_byte 47 (one ∷ more)) (47 ∷ name))
    ∙ ap encode_utf8_all (sym (join_more (one ∷ more) name (omega arith)))

-- ---- segments

-- one more name is put after the path of the drive and the names so far
pub names_put : (path next : List ℕ) (first : List (List ℕ)) (before : List (Bor (List ℕ))) (name : Bor (List ℕ))
    → path ≡ joined_path (first ++ map (λ s. s.now) before) → All (λ n. is_kept n ≡ true) (first ++ map (λ s. s.now) before) → next ≡ put path name.now
    → next ≡ joined_path (first ++ map (λ s. s.now) (before ++ name ∷ []))
names_put path next first before name so_far kept is =
    is ∙ ap (λ p. put p name.now) so_far ∙ joined_put _ name.now kept
    ∙ ap joined_path (append_assoc first (map (λ s. s.now) before) (name.now ∷ []) ∙ ap (λ ss. first ++ ss) (sym (map-append _ before (name ∷ []))))

letter_kept : (letter : ℕ) → letter ≢ 46 → is_kept (letter ∷ []) ≡ true
letter_kept letter other = ap (λ b. not (b && true)) (ne_eqb letter 46 other)

-- a drive is kept
pub drive_kept : (drive : Option ℕ) → IfSome drive (λ letter. letter ≢ 46) → All (λ n. is_kept n ≡ true) (drive_segments drive)
drive_kept None other = All-nil (λ n. is_kept n ≡ true)
drive_kept (Some letter) other = All-cons (λ n. is_kept n ≡ true) (letter ∷ []) [] (letter_kept letter other) (All-nil (λ n. is_kept n ≡ true))

pub kept_after : (drive : Option ℕ) (rest : List (List ℕ)) → IfSome drive (λ letter. letter ≢ 46) → kept_segments (drive_segments drive ++ rest) ≡ drive_segments drive ++ kept_segments rest
kept_after None rest other = refl
kept_after (Some letter) rest other = ap (λ b. cond b ((letter ∷ []) ∷ kept_segments rest) (kept_segments rest)) (letter_kept letter other)

-- a drive is no `..`
pub drive_no_parent : (drive : Option ℕ) (rest : List (List ℕ)) → list_any is_parent (drive_segments drive ++ rest) ≡ list_any is_parent rest
drive_no_parent None rest = refl
drive_no_parent (Some letter) rest = ap (λ b. b || list_any is_parent rest) (and_right (nat_eq letter 46) false refl)

-- ---- the names that are left

left_none : (names : List (List ℕ)) → All (λ name. is_kept name ≡ true) names → length (joined_path names) ≡ 0 → option_map joined_path (if_filled names) ≡ None
left_none [] kept empty = refl
left_none (one ∷ more) kept empty = absurd (omega (arith, joined_filled (one ∷ more) (omega arith) kept))

left_some : (names : List (List ℕ)) → 0 < length (joined_path names) → option_map joined_path (if_filled names) ≡ Some (joined_path names)
left_some [] some = absurd (omega arith)
left_some (one ∷ more) some = refl

names_left : (all : List (List ℕ)) → list_any is_parent all ≡ false → names_of all ≡ if_filled (kept_segments all)
names_left all none = ap (λ b. cond b None (if_filled (kept_segments all))) none

-- where the path of the segments is empty, they mean none
pub path_none : (all : List (List ℕ)) (path : List ℕ) → list_any is_parent all ≡ false → path ≡ joined_path (kept_segments all) → length path ≡ 0 → option_map joined_path (names_of all) ≡ None
path_none all path none is empty = ap (option_map joined_path) (names_left all none) ∙ left_none (kept_segments all) (filter_passes is_kept all) (ap length (sym is) ∙ empty)

-- or else they mean it
pub path_some : (all : List (List ℕ)) (path : List ℕ) → list_any is_parent all ≡ false → path ≡ joined_path (kept_segments all) → 0 < length path → option_map joined_path (names_of all) ≡ Some path
path_some all path none is some = ap (option_map joined_path) (names_left all none) ∙ left_some (kept_segments all) (omega (arith, ap length is)) ∙ ap Some (sym is)

filled_some : (names : List (List ℕ)) → 0 < length names → is_some (option_map joined_path (if_filled names)) ≡ true
filled_some [] some = absurd (omega arith)
filled_some (one ∷ more) some = refl

-- where some are kept, they mean some
pub path_there : (all : List (List ℕ)) → list_any is_parent all ≡ false → 0 < length (kept_segments all) → is_some (option_map joined_path (names_of all)) ≡ true
path_there all none some = ap (λ names. is_some (option_map joined_path names)) (names_left all none) ∙ filled_some (kept_segments all) some
