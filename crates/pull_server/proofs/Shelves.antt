-- What is so of the contents of a shelf.
use Rattle.std.proofs.Common.{◌≡◌, ℕ, ◌≤◌, List, [], length, take, Option, Some, None, IfSome, refl, sym, subst}
use Rattle.std.proofs.lemmas.List.{take_all}
use Rattle.pull_outside.specs.Shelf.{Contents}
use Rattle.pull_server.specs.Asked.{Over}
use Rattle.pull_server.specs.Signed.{most_keys}

abbrev with_keys : List (List ℕ) → Contents
with_keys keys = record { configurations = []; packages = []; keys = keys }

-- what is so of all contents
pub of_all : (P : Contents → Type 0) (shelf : Option Contents) → ((contents : Contents) → P contents) → Over shelf P
of_all P None all = record { contents = with_keys []; are = tt; is = all (with_keys []) }
of_all P (Some contents) all = record { contents = contents; are = refl; is = all contents }

-- it is of the contents that the shelf shows
pub of_told : (P : Contents → Type 0) (shelf : Option Contents) → Over shelf P → (contents : Contents) → shelf ≡ Some contents → P contents
of_told P shelf over contents told = subst P (subst (λ (o : Option Contents). IfSome o (λ here. over.contents ≡ here)) told over.are) over.is

-- what follows from it
pub then_of : (P Q : Contents → Type 0) (shelf : Option Contents) → Over shelf P → ((contents : Contents) → P contents → Q contents) → Over shelf Q
then_of P Q shelf over so = record { contents = over.contents; are = over.are; is = so over.contents over.is }

-- the keys that were read
pub of_keys : (shelf : Option Contents) (keys : List (List ℕ)) → length keys ≤ most_keys → ((contents : Contents) → shelf ≡ Some contents → keys ≡ take most_keys contents.keys)
    → Over shelf (λ contents. keys ≡ take most_keys contents.keys)
of_keys None keys few told = record { contents = with_keys keys; are = tt; is = sym (take_all most_keys keys few) }
of_keys (Some contents) keys few told = record { contents = contents; are = refl; is = told contents refl }
