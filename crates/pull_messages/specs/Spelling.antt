-- Texts that are put together of spellings.
use Rattle.std.specs.Prelude.{◌≡◌, ℕ, List, [], ◌∷◌, ◌++◌}

-- the text is spellings of these things, one after the other
abbrev pub Spells : {A : Type 0} → (A → List ℕ → Type 0) → List A → List ℕ → Type 0
Spells spells [] text = text ≡ []
Spells spells (x ∷ xs) text = (front : List ℕ) × (rest : List ℕ) × (text ≡ front ++ rest) × spells x front × Spells spells xs rest
