-- The printed names of the errors for which an input is refused: their names, and their values.
use Rattle.std.specs.Prelude.{ℕ, List, ◌++◌, codes, encode_utf8_all}
use Rattle.std.specs.List.{flat_map}
use Rattle.std.specs.Fmt.{decimal}
use Rattle.mof_syntax.specs.declared.mof_error.MofError.{MofError}
use Rattle.mof_syntax.specs.declared.mof_error.MofError.TheVariants as faults
use Rattle.mof_syntax.specs.Forms.{form_name}
use Rattle.dsc_document.specs.declared.error.DocError.{DocError}
use Rattle.dsc_document.specs.declared.error.DocError.TheVariants as rules
use Rattle.dsc_document.specs.declared.spot.Spot.{Spot}
use Rattle.partial_merge.specs.declared.error.PartFault.{PartFault}
use Rattle.partial_merge.specs.declared.error.PartFault.TheVariants as parts
use Rattle.partial_merge.specs.declared.error.MergeError.{MergeError}
use Rattle.partial_merge.specs.declared.error.MergeError.TheVariants as merge
use Rattle.meta_config.specs.declared.error.Limit.{Limit}
use Rattle.meta_config.specs.declared.error.Limit.TheVariants as limits
use Rattle.meta_config.specs.declared.error.MetaError.{MetaError}
use Rattle.meta_config.specs.declared.error.MetaError.TheVariants as metas
use Rattle.config_script.specs.declared.error.CompileError.{CompileError}
use Rattle.config_script.specs.declared.error.CompileError.TheVariants as scripts
use Rattle.node_state.specs.declared.error.FitError.{FitError}
use Rattle.node_state.specs.declared.error.FitError.TheVariants as fits
use Rattle.dsc_node.specs.Quoted.{quoted}
use Rattle.dsc_node.specs.declared.status.InputError.{InputError}
use Rattle.dsc_node.specs.declared.status.InputError.TheVariants.{TooLong, Mof, Merge, Meta, Parts, Fit, ListTooLong, Compile, Script}

-- the name of a text's refusal, and its values; out of memory has a status of its own, and is never reported so
abbrev pub mof_words : MofError → List ℕ
mof_words faults.TooLong = codes "TooLong"
mof_words (faults.Text at) = codes "Text " ++ decimal at
mof_words (faults.Syntax at) = codes "Syntax " ++ decimal at
mof_words (faults.OutOfProfile at what) = codes "OutOfProfile " ++ decimal at ++ codes " " ++ form_name what
mof_words (faults.NumberRange at) = codes "NumberRange " ++ decimal at
mof_words (faults.TooMany at) = codes "TooMany " ++ decimal at
mof_words faults.Memory = codes "Memory"

-- a name and the places of two instances
abbrev pub pair_words : List ℕ → ℕ → ℕ → List ℕ
pair_words name first second = name ++ codes " " ++ decimal first ++ codes " " ++ decimal second

-- a name that an instance repeats
abbrev pub repeated_words : ℕ → List ℕ → List ℕ
repeated_words index name = codes "DuplicateProperty " ++ decimal index ++ codes " " ++ encode_utf8_all name

-- the name of a broken rule, and its values
abbrev pub rule_words : DocError → List ℕ
rule_words (rules.DuplicateProperty index name) = repeated_words index name
rule_words (rules.TwoAliases first second) = pair_words (codes "TwoAliases") first second
rule_words (rules.AliasUnknown index) = codes "AliasUnknown " ++ decimal index
rule_words rules.NoHeader = codes "NoHeader"
rule_words (rules.TwoHeaders first second) = pair_words (codes "TwoHeaders") first second
rule_words (rules.BadResourceId index) = codes "BadResourceId " ++ decimal index
rule_words (rules.DuplicateId first second) = pair_words (codes "DuplicateId") first second
rule_words (rules.BadDependsOn index) = codes "BadDependsOn " ++ decimal index
rule_words (rules.DependsUnknown index name) = codes "DependsUnknown " ++ decimal index ++ codes " " ++ quoted name
rule_words rules.Memory = codes "Memory"

abbrev pub part_words : PartFault → List ℕ
part_words (parts.Mof error) = mof_words error
part_words (parts.Doc error) = rule_words error

-- an instance by its part and its place in it
abbrev pub spot_words : Spot → List ℕ
spot_words spot = decimal spot.part ++ codes "." ++ decimal spot.index

-- two instances with the same id
abbrev pub same_id_words : Spot → Spot → List ℕ
same_id_words first second = codes "DuplicateId " ++ spot_words first ++ codes " " ++ spot_words second

abbrev pub place_words : ℕ → List ℕ
place_words place = codes " " ++ decimal place

-- the name of a merge's refusal, and its values
abbrev pub merge_words : MergeError → List ℕ
merge_words (merge.TwoNames first second) = pair_words (codes "TwoNames") first second
merge_words (merge.Part index fault) = codes "Part " ++ decimal index ++ codes " " ++ part_words fault
merge_words (merge.TooMany count) = codes "TooMany " ++ decimal count
merge_words (merge.DuplicateId first second) = same_id_words first second
merge_words (merge.DependsUnknown spot name) = codes "DependsUnknown " ++ spot_words spot ++ codes " " ++ quoted name
merge_words (merge.Cycle walk) = codes "Cycle" ++ flat_map place_words walk
merge_words merge.Memory = codes "Memory"

-- why a document does not fit a meta-configuration, and its values
abbrev pub fit_words : FitError → List ℕ
fit_words (fits.PartCount found) = codes "PartCount " ++ decimal found
fit_words (fits.StrangePart part) = codes "StrangePart " ++ decimal part
fit_words (fits.MissingPart partial) = codes "MissingPart " ++ decimal partial
fit_words (fits.ExclusiveTaken part resource) = codes "ExclusiveTaken " ++ decimal part ++ codes " " ++ decimal resource

abbrev pub limit_name : Limit → List ℕ
limit_name limits.Partials = codes "partials"
limit_name limits.Names = codes "names"
limit_name limits.Text = codes "text"

-- an instance and the name of its property
abbrev pub bad_value_words : ℕ → List ℕ → List ℕ
bad_value_words index name = codes "BadValue " ++ decimal index ++ codes " " ++ encode_utf8_all name

-- an instance and a name that no partial configuration has
abbrev pub unknown_part_words : ℕ → List ℕ → List ℕ
unknown_part_words index name = codes "DependsUnknown " ++ decimal index ++ codes " " ++ quoted name

-- the name of a meta-configuration's refusal, and its values
abbrev pub meta_words : MetaError → List ℕ
meta_words (metas.Mof error) = mof_words error
meta_words metas.NoMeta = codes "NoMeta"
meta_words (metas.TwoMetas first second) = pair_words (codes "TwoMetas") first second
meta_words (metas.TwoManagers first second) = pair_words (codes "TwoManagers") first second
meta_words (metas.BadUrl index) = codes "BadUrl " ++ decimal index
meta_words (metas.TwoServers first second) = pair_words (codes "TwoServers") first second
meta_words (metas.BadValue index name) = bad_value_words index name
meta_words (metas.TooMany name) = codes "TooMany " ++ limit_name name
meta_words (metas.DuplicatePartial first second) = pair_words (codes "DuplicatePartial") first second
meta_words (metas.DependsUnknown index name) = unknown_part_words index name
meta_words metas.Memory = codes "Memory"

-- why a script gives a node no document, and the values; of what is merged to no document, those of that refusal
abbrev pub compile_words : CompileError → List ℕ
compile_words scripts.TooLong = codes "TooLong"
compile_words (scripts.NotText at) = codes "NotText " ++ decimal at
compile_words (scripts.Shape line) = codes "Shape " ++ decimal line
compile_words (scripts.UnknownKind line) = codes "UnknownKind " ++ decimal line
compile_words (scripts.Reserved line) = codes "Reserved " ++ decimal line
compile_words scripts.NoNode = codes "NoNode"
compile_words (scripts.Merge error) = merge_words error
compile_words scripts.Memory = codes "Memory"

-- the name of an input's error, and its values
abbrev pub error_words : InputError → List ℕ
error_words TooLong = codes "TooLong"
error_words (Mof error) = mof_words error
error_words (Merge error) = merge_words error
error_words (Meta error) = codes "Meta " ++ meta_words error
error_words (Parts walk) = codes "Parts" ++ flat_map place_words walk
error_words (Fit error) = codes "Fit " ++ fit_words error
error_words (ListTooLong bytes) = codes "ListTooLong " ++ decimal bytes
error_words (Compile reason) = codes "Compile " ++ compile_words reason
error_words (Script line) = codes "Script " ++ decimal line
