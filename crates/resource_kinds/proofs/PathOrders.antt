-- How two paths lie to each other, by their characters and by their bytes.
use Rattle.std.proofs.Common.{◌≡◌, ℕ, List, [], ◌∷◌, ◌++◌, Bool, true, false, cond, nat_eq, refl, sym, ap, ◌∙◌, append_assoc, arith}
use Rattle.std.specs.Prelude.{⊤, encode_utf8, encode_utf8_all}
use Rattle.std.proofs.lemmas.Bool.{eq-eqb, eqb-true}
use Rattle.std.proofs.lemmas.Str.{cons_from_encodes, encode_ascii, encodes-append}
use Rattle.dsc_outside.specs.Paths.{IsBelow}
use Rattle.resource_kinds.specs.declared.path_order.PathOrder.{PathOrder}
use Rattle.resource_kinds.specs.declared.path_order.PathOrder.TheVariants.{Same, Above, Below, Apart}
use Rattle.resource_kinds.specs.PathOrder.{order_of}

-- ---- characters and bytes

slash : (rest : List ℕ) → encode_utf8 47 ++ rest ≡ 47 ∷ rest
slash rest = ap (λ bytes. bytes ++ rest) (encode_ascii 47 (omega arith))

pub below_bytes : (a b : List ℕ) → IsBelow a b → IsBelow (encode_utf8_all a) (encode_utf8_all b)
below_bytes a b is =
    (encode_utf8_all is.0, ap encode_utf8_all is.1 ∙ encodes-append a (47 ∷ is.0) ∙ ap (λ bytes. encode_utf8_all a ++ bytes) (slash (encode_utf8_all is.0)))

pub below_chars : (a b : List ℕ) → IsBelow (encode_utf8_all a) (encode_utf8_all b) → IsBelow a b
below_chars [] b is =
    let found = cons_from_encodes b is.0 47 (is.1 ∙ sym (slash is.0)) in
    (found.0, found.1)
below_chars (c ∷ cs) b is =
    let found = cons_from_encodes b (encode_utf8_all cs ++ 47 ∷ is.0) c (is.1 ∙ append_assoc (encode_utf8 c) (encode_utf8_all cs) (47 ∷ is.0)) in
    let rest = below_chars cs found.0 (is.0, found.2) in
    (rest.0, found.1 ∙ ap (λ chars. c ∷ chars) rest.1)

-- ---- what an order says

abbrev pub IsOrder : PathOrder → List ℕ → List ℕ → Type 0
IsOrder Same a b = a ≡ b
IsOrder Above a b = IsBelow a b
IsOrder Below a b = IsBelow b a
IsOrder Apart a b = ⊤

one_more : (order : PathOrder) (c d : ℕ) (cs ds : List ℕ) → c ≡ d → IsOrder order cs ds → IsOrder order (c ∷ cs) (d ∷ ds)
one_more Same c d cs ds first is = λ i. first i ∷ is i
one_more Above c d cs ds first is = (is.0, λ i. sym first i ∷ is.1 i)
one_more Below c d cs ds first is = (is.0, λ i. first i ∷ is.1 i)
one_more Apart c d cs ds first is = tt

above_end : (d : ℕ) (ds : List ℕ) (test : Bool) → nat_eq d 47 ≡ test → IsOrder (cond test Above Apart) [] (d ∷ ds)
above_end d ds true is = (ds, ap (λ c. c ∷ ds) (eqb-true d 47 is))
above_end d ds false is = tt

below_end : (c : ℕ) (cs : List ℕ) (test : Bool) → nat_eq c 47 ≡ test → IsOrder (cond test Below Apart) (c ∷ cs) []
below_end c cs true is = (cs, ap (λ d. d ∷ cs) (eqb-true c 47 is))
below_end c cs false is = tt

goes_on : (c d : ℕ) (cs ds : List ℕ) (test : Bool) → nat_eq c d ≡ test → IsOrder (order_of cs ds) cs ds → IsOrder (cond test (order_of cs ds) Apart) (c ∷ cs) (d ∷ ds)
goes_on c d cs ds true is rest = one_more (order_of cs ds) c d cs ds (eqb-true c d is) rest
goes_on c d cs ds false is rest = tt

pub is_order : (a b : List ℕ) → IsOrder (order_of a b) a b
is_order [] [] = refl
is_order [] (d ∷ ds) = above_end d ds (nat_eq d 47) refl
is_order (c ∷ cs) [] = below_end c cs (nat_eq c 47) refl
is_order (c ∷ cs) (d ∷ ds) = goes_on c d cs ds (nat_eq c d) refl (is_order cs ds)

-- ---- which order there is

pub order_same : (a : List ℕ) → order_of a a ≡ Same
order_same [] = refl
order_same (c ∷ cs) = ap (λ test. cond test (order_of cs cs) Apart) (eq-eqb c c refl) ∙ order_same cs

pub order_above : (a rest : List ℕ) → order_of a (a ++ 47 ∷ rest) ≡ Above
order_above [] rest = refl
order_above (c ∷ cs) rest = ap (λ test. cond test (order_of cs (cs ++ 47 ∷ rest)) Apart) (eq-eqb c c refl) ∙ order_above cs rest

pub order_below : (b rest : List ℕ) → order_of (b ++ 47 ∷ rest) b ≡ Below
order_below [] rest = refl
order_below (c ∷ cs) rest = ap (λ test. cond test (order_of (cs ++ 47 ∷ rest) cs) Apart) (eq-eqb c c refl) ∙ order_below cs rest
