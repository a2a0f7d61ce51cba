-- What a disk reads as after one change and another.
use Rattle.std.proofs.Common.{◌≡◌, ℕ, ◌+◌, ◌-◌, ◌≤◌, max, Bool, true, false, List, ◌++◌, length, take, drop, replicate, refl, sym, ◌∙◌, ap, arith, append_assoc, append-nil, length-append, Option, Some, None, IfSome}
use Rattle.std.specs.Prelude.{option_map}
use Rattle.std.proofs.lemmas.List.{drop_at, drop_all, take_all, length-take-le, length-replicate, replicate-append-replicate}
use Rattle.dsc_outside.specs.Disk.{written}
use Rattle.gate_log.specs.Text.{Selects}
use Rattle.gate_log.specs.Bytes.{selector_of, with_zeros}
use Rattle.gate_log.proofs.Holds.{take_take, written_torn}

pub read_both : (f g h : List ℕ → List ℕ) (P : List ℕ → Type 0) (seen0 seen1 seen2 : Option (List ℕ)) → ((held : List ℕ) → P held → g (f held) ≡ h held) → IfSome seen0 P → seen1 ≡ option_map f seen0 → seen2 ≡ option_map g seen1 → seen2 ≡ option_map h seen0
read_both f g h P None seen1 seen2 same p is1 is2 = is2 ∙ ap (λ (o : Option (List ℕ)). option_map g o) is1
read_both f g h P (Some held) seen1 seen2 same p is1 is2 = is2 ∙ ap (λ (o : Option (List ℕ)). option_map g o) is1 ∙ ap (λ (l : List ℕ). Some l) (same held p)

-- bytes, and then those in front of them
pub written_front : (at : ℕ) (a b held : List ℕ) → at + length a ≤ length held → written at a (written (at + length a) b held) ≡ written at (a ++ b) held
written_front at a b held le =
    let n = at + length a in
    let new = written n b held in
    let rest = drop (n + length b) held in
    let front : take at new ≡ take at held =
    sym (take_take at (length a) n new refl) ∙ ap (λ (l : List ℕ). take at l) (written_torn n b held le).before ∙ take_take at (length a) n held refl in
    let back : drop n new ≡ b ++ rest = ap (λ (l : List ℕ). drop n l) (append_assoc (take n held) b rest) ∙ drop_at (take n held) (b ++ rest) n (length-take-le n held le) in
    let size : n + length b ≡ at + length (a ++ b) = omega (arith, length-append a b) in
    ap (λ (l : List ℕ). l ++ a ++ drop n new) front
    ∙ ap (λ (l : List ℕ). take at held ++ a ++ l) back
    ∙ sym (append_assoc (take at held ++ a) b rest)
    ∙ ap (λ (l : List ℕ). l ++ rest) (append_assoc (take at held) a b)
    ∙ ap (λ (k : ℕ). (take at held ++ (a ++ b)) ++ drop k held) size

-- ---- zeros at the end

no_zeros : (to : ℕ) (held : List ℕ) → to ≤ length held → with_zeros to held ≡ held
no_zeros to held le = ap (λ (n : ℕ). held ++ replicate n 0) (zero_is (to - length held) (omega (arith, le))) ∙ append-nil held
  where
    zero_is : (n : ℕ) → n ≤ 0 → n ≡ 0
    zero_is n less = omega (arith, less)

pub read_first : (to : ℕ) (seen : Option (List ℕ)) → IfSome seen (λ held. to ≡ length held) → seen ≡ option_map (with_zeros to) seen
read_first to None is = refl
read_first to (Some held) is = ap (λ (l : List ℕ). Some l) (sym (no_zeros to held (omega (arith, is))))

more_zeros : (end n : ℕ) (zeros held : List ℕ) → length held ≤ end → zeros ≡ replicate n 0 → written end zeros (with_zeros end held) ≡ with_zeros (end + n) held
more_zeros end n zeros held le are =
    let now = with_zeros end held in
    let row : List ℕ = replicate (end - length held) 0 in
    let size : length now ≡ end = omega (arith, le, length-append held row, length-replicate {A = ℕ} (end - length held) 0) in
    ap (λ (l : List ℕ). l ++ zeros ++ drop (end + length zeros) now) (take_all end now (omega (arith, size)))
    ∙ ap (λ (l : List ℕ). now ++ zeros ++ l) (drop_all (end + length zeros) now (omega (arith, size)))
    ∙ append-nil (now ++ zeros)
    ∙ append_assoc held row zeros
    ∙ ap (λ (l : List ℕ). held ++ (row ++ l)) are
    ∙ ap (λ (l : List ℕ). held ++ l) (replicate-append-replicate {A = ℕ} (end - length held) n 0)
    ∙ ap (λ (k : ℕ). held ++ replicate k 0) (omega (arith, le))

pub read_more : (long end n : ℕ) (zeros : List ℕ) (seen0 seen1 seen2 : Option (List ℕ)) → IfSome seen0 (λ held. long ≡ length held) → long ≤ end → zeros ≡ replicate n 0 → seen1 ≡ option_map (with_zeros end) seen0 → seen2 ≡ option_map (written end zeros) seen1
    → seen2 ≡ option_map (with_zeros (end + n)) seen0
read_more long end n zeros seen0 seen1 seen2 is past are is1 is2 =
    read_both (with_zeros end) (written end zeros) (with_zeros (end + n)) (λ held. long ≡ length held) seen0 seen1 seen2 (λ held here. more_zeros end n zeros held (omega (arith, here, past)) are) is is1 is2

pub read_last : (long to end : ℕ) (seen0 seen1 : Option (List ℕ)) → IfSome seen0 (λ held. long ≡ length held) → end ≡ max long to → seen1 ≡ option_map (with_zeros end) seen0 → seen1 ≡ option_map (with_zeros to) seen0
read_last long to end None seen1 is there is1 = is1
read_last long to end (Some held) seen1 is there is1 = is1 ∙ ap (λ (k : ℕ). Some (held ++ replicate k 0)) (same_number long to end (length held) is there)
  where
    same_number : (long to end n : ℕ) → long ≡ n → end ≡ max long to → end - n ≡ to - n
    same_number long to end n is there = omega (arith, is, there)

-- ---- the selector

pub selects : (second : Bool) (selector : ℕ) → selector ≡ selector_of second → Selects selector second
selects true selector is = is
selects false selector is = λ fifty. omega (arith, is, fifty)
