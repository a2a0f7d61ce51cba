-- What is printed of a node: by `get`, by `reports`, and where all is done.
use Rattle.std.specs.Prelude.{ℕ, Bool, true, false, List, [], ◌++◌, Option, Some, None, codes, encode_utf8_all}
use Rattle.std.specs.List.{flat_map}
use Rattle.std.specs.Fmt.{decimal}
use Rattle.std.specs.Int.{w128, to_be_bytes}
use Rattle.uuid.specs.Text.{hyphenated_text, lower}
use Rattle.shared_key.specs.Checksum.{checksum_of}
use Rattle.meta_config.specs.declared.meta.Meta.{Meta}
use Rattle.meta_config.specs.declared.server.Server.{Server}
use Rattle.meta_config.specs.Urls.{url_of}
use Rattle.meta_config.specs.Words.{after_name, mode_name, refresh_name}
use Rattle.meta_config.specs.Writing.{site_at_server}
use Rattle.partial_merge.specs.declared.part.Part.{Part}
use Rattle.report_log.specs.declared.report.Outcome.{Outcome}
use Rattle.report_log.specs.declared.report.Outcome.TheVariants.{Success, Failure, Reboot}
use Rattle.node_state.specs.declared.node.Kept.{Kept}
use Rattle.node_state.specs.declared.node.Node.{Node}
use Rattle.dsc_node.specs.declared.plan.Printed.{Printed}
use Rattle.dsc_node.specs.declared.plan.Printed.TheVariants as printed
use Rattle.dsc_node.specs.Quoted.{quoted}

abbrev pub yes_no : Bool → List ℕ
yes_no true = codes "yes"
yes_no false = codes "no"

-- a line: its name, a space and what it says
unfoldable pub line : List ℕ → List ℕ → List ℕ
line name says = name ++ codes " " ++ says ++ codes "\n"

-- ---- a node

-- the identifier of an agent, hyphenated in lower case (RFC 9562, section 4)
unfoldable pub agent_text : ℕ → List ℕ
agent_text agent = hyphenated_text lower (to_be_bytes w128 agent)

-- no node is shown before it has an agent
abbrev pub agent_line : Option ℕ → List ℕ
agent_line None = []
agent_line (Some agent) = line (codes "agent") (agent_text agent)

-- the URL as `write_meta` writes it
abbrev pub server_text : Option Server → List ℕ
server_text None = codes "none"
server_text (Some server) = encode_utf8_all (url_of (site_at_server server))

abbrev pub meta_lines : Meta → List ℕ
meta_lines meta =
    line (codes "mode") (mode_name meta.mode ++ codes " " ++ refresh_name meta.refresh)
    ++ line (codes "frequencies") (decimal meta.mode_mins ++ codes " " ++ decimal meta.refresh_mins)
    ++ line (codes "reboot policy") (yes_no meta.reboot_if_needed)
    ++ line (codes "after") (after_name meta.after)
    ++ line (codes "overwrite") (yes_no meta.module_overwrite)
    ++ line (codes "server") (server_text meta.server)

-- a part by its name and its digest
abbrev pub part_text : Part → List ℕ
part_text part = codes " " ++ quoted part.name ++ codes " " ++ checksum_of part.digest

abbrev pub parts_text : Option (List Part) → List ℕ
parts_text None = codes " -"
parts_text (Some parts) = flat_map part_text parts

-- what is kept there
abbrev pub slot_line : List ℕ → Option (List Part) → List ℕ
slot_line name parts = name ++ parts_text parts ++ codes "\n"

abbrev pub slot_lines : Node → List ℕ
slot_lines node = slot_line (codes "pending") node.pending ++ slot_line (codes "current") node.current ++ slot_line (codes "previous") node.previous

abbrev pub node_text : Node → List ℕ
node_text node =
    agent_line node.agent
    ++ line (codes "registered") (yes_no node.registered)
    ++ meta_lines node.meta
    ++ line (codes "reboot") (yes_no node.reboot)
    ++ line (codes "job") (decimal node.next_job)
    ++ slot_lines node

-- ---- its reports

abbrev pub outcome_name : Outcome → List ℕ
outcome_name Success = codes "Success"
outcome_name Failure = codes "Failure"
outcome_name Reboot = codes "Reboot"

abbrev pub sent_word : Bool → List ℕ
sent_word true = codes "sent"
sent_word false = codes "unsent"

-- its job, what the run came to, how many resources there were and how many of them did not succeed, and whether the server has it
abbrev pub report_words : Kept → List ℕ
report_words kept =
    decimal kept.report.job ++ codes " " ++ outcome_name kept.report.outcome ++ codes " " ++ decimal kept.report.total
    ++ codes " " ++ decimal kept.report.missed ++ codes " " ++ sent_word kept.sent

abbrev pub report_line : Kept → List ℕ
report_line kept = line (codes "report") (report_words kept)

-- the oldest first
abbrev pub reports_text : Node → List ℕ
reports_text node = flat_map report_line node.reports

-- ---- what is printed where nothing is run

abbrev pub printed_text : Printed → Node → List ℕ
printed_text printed.Done node = codes "ok\n"
printed_text printed.Node node = node_text node
printed_text printed.Reports node = reports_text node
