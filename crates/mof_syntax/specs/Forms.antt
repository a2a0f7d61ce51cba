-- The names of the forms of DSP0004 that are left out, as they are printed.
use Rattle.std.specs.Prelude.{ℕ, List, codes}
use Rattle.mof_syntax.specs.declared.mof_error.Form.{Form}
use Rattle.mof_syntax.specs.declared.mof_error.Form.TheVariants as forms

abbrev pub form_name : Form → List ℕ
form_name forms.Pragma = codes "pragma"
form_name forms.Qualifiers = codes "qualifiers"
form_name forms.Class = codes "class"
form_name forms.Qualifier = codes "qualifier"
form_name forms.Character = codes "character"
form_name forms.Real = codes "real"
