-- Names of which one is no class's are not those of classes.
use Rattle.std.proofs.Common.{◌≡◌, ℕ, zero, suc, ◌<◌, List, [], ◌∷◌, length, get_or, drop, map, ap, sym, ◌∙◌, None, arith}
use Rattle.std.specs.Borrow.{Bor}
use Rattle.std.proofs.lemmas.Option.{none-some}
use Rattle.agent_class.specs.declared.class.Class.{Class}
use Rattle.store_lines.specs.Told.{class_word}
use Rattle.pull_messages.specs.Targets.{agent_of}
use Rattle.store_lines.specs.Words.{AreNoClasses, AreNoIds}

pub unnamed : (names : List (Bor (List ℕ))) (i : ℕ) (d : Bor (List ℕ)) → i < length names → ((class : Class) → class_word class ≡ (get_or names i d).now → ⊥)
    → AreNoClasses (map (λ v. v.now) names)
unnamed [] i d less never classes is = absurd (omega (arith, less))
unnamed (name ∷ names) i d less never [] is = let bad : 0 ≡ suc (length (map (λ v. v.now) names)) = ap length is in absurd (omega (arith, bad))
unnamed (name ∷ names) zero d less never (class ∷ classes) is = never class (ap (λ all. get_or all 0 []) is)
unnamed (name ∷ names) (suc i) d less never (class ∷ classes) is = unnamed names i d (omega (arith, less)) never classes (ap (drop 1) is)

-- Texts of which one spells no id are not those of ids.
pub unspelled : (texts : List (Bor (List ℕ))) (i : ℕ) (d : Bor (List ℕ)) → i < length texts → agent_of (get_or texts i d).now ≡ None → AreNoIds (map (λ v. v.now) texts)
unspelled [] i d less none ids is = absurd (omega (arith, less))
unspelled (text ∷ texts) i d less none [] is = let bad : suc (length (map agent_of (map (λ v. v.now) texts))) ≡ 0 = ap length is in absurd (omega (arith, bad))
unspelled (text ∷ texts) zero d less none (id ∷ ids) is = none-some id (sym none ∙ ap (λ all. get_or all 0 None) is)
unspelled (text ∷ texts) (suc i) d less none (id ∷ ids) is = unspelled texts i d (omega (arith, less)) none ids (ap (drop 1) is)
