-- What a line has as JSON is written with no float.
use Rattle.std.proofs.Common.{◌≡◌, ℕ, List, [], ◌∷◌, map, false, refl}
use Rattle.serde_json.specs.View.{items_of}
use Rattle.serde_json.specs.Written.{has_float, items_have_float}
use Rattle.pull_messages.specs.Writing.{text_data, texts_data}
use Rattle.agent_line.specs.Unmet.{unmet_data, unmet_items}

text_items : (texts : List (List ℕ)) → items_have_float (items_of (map text_data texts)) ≡ false
text_items [] = refl
text_items (text ∷ texts) = rw (text_items texts) refl

pub texts_no_float : (texts : List (List ℕ)) → has_float (texts_data texts) ≡ false
texts_no_float texts = text_items texts

unmet_of : (errors : List (List ℕ)) → items_have_float (items_of (map unmet_data errors)) ≡ false
unmet_of [] = refl
unmet_of (error ∷ errors) = rw (unmet_of errors) refl

pub unmet_no_float : (errors : List (List ℕ)) → has_float (unmet_items errors) ≡ false
unmet_no_float errors = unmet_of errors
