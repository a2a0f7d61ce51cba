-- The command `order`.
use Rattle.std.specs.Prelude.{◌≡◌, ℕ, List, ◌++◌, codes}
use Rattle.std.specs.List.{flat_map}
use Rattle.dsc_document.specs.declared.document.Document.{Document}
use Rattle.depend_order.specs.Documents.{IsOrderOfDocument}
use Rattle.dsc_node.specs.Lines.{id_at}
use Rattle.dsc_node.specs.Quoted.{quoted}
use Rattle.lcm_program.specs.Input.{Reading, ReadsDocument}
use Rattle.lcm_program.specs.Tool.{Shows}

abbrev pub id_line : Document → ℕ → List ℕ
id_line document place = quoted (id_at document place) ++ codes "\n"

-- the ids of the resources, a line each, in the order of their dependencies
pub record AreIdLines (document : Document) (text : List ℕ) : Type 0 where
  pub order : List ℕ
  pub is_order : IsOrderOfDocument document order
  pub lines : text ≡ flat_map (id_line document) order

abbrev pub AnswersOrder : Reading (List ℕ)
AnswersOrder = Shows ReadsDocument AreIdLines
