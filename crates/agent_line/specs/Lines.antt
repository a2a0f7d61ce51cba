-- The line of an agent, and that of one of its reports, as JSON with its members in this order.
use Rattle.std.specs.Prelude.{ℕ, ◌-◌, Bool, true, false, List, [], ◌∷◌, ◌++◌, length, slice_get, codes, Option, Some, None, option_map}
use Rattle.std.specs.Fmt.{decimal}
use Rattle.serde_json.specs.Written.{compact_text}
use Rattle.pull_messages.specs.declared.report.ReportMessage.{ReportMessage}
use Rattle.pull_messages.specs.Writing.{id_text, text_data, texts_data}
use Rattle.pull_store.specs.declared.row.Row.{Row}
use Rattle.agent_line.specs.Numbers.{count_of}
use Rattle.agent_line.specs.Unmet.{unmet_json}

unfoldable pub json_text : List ℕ → List ℕ
json_text text = compact_text (text_data text)

-- a text that an agent left out is read as an empty one
unfoldable pub text_or_null : List ℕ → List ℕ
text_or_null [] = codes "null"
text_or_null (c ∷ rest) = json_text (c ∷ rest)

unfoldable pub texts_json : List (List ℕ) → List ℕ
texts_json texts = compact_text (texts_data texts)

abbrev pub truth : Bool → List ℕ
truth true = codes "true"
truth false = codes "false"

-- the name of a further member of the object
unfoldable pub key : List ℕ → List ℕ
key name = codes ",\"" ++ name ++ codes "\":"

-- a word that needs no escape
unfoldable pub word_json : List ℕ → List ℕ
word_json word = codes "\"" ++ word ++ codes "\""

-- an identifier, hyphenated in lower case
unfoldable pub id_json : ℕ → List ℕ
id_json id = word_json (id_text id)

abbrev pub id_or_null : Option ℕ → List ℕ
id_or_null None = codes "null"
id_or_null (Some id) = id_json id

-- which agent of which store
unfoldable pub who_of : List ℕ → Row → List ℕ
who_of store row = codes "{\"store\":" ++ json_text store ++ key (codes "agent") ++ id_json row.agent

-- the name that it registered with
unfoldable pub named_of : Row → List ℕ
named_of row = key (codes "node_name") ++ text_or_null row.registration.node_name

-- what it said of itself when it registered
unfoldable pub registered_of : Row → List ℕ
registered_of row = named_of row ++ key (codes "configurations") ++ texts_json row.registration.names

-- the name of a class
unfoldable pub class_part : List ℕ → List ℕ
class_part class = key (codes "class") ++ word_json class

-- the name of its class, and whether it is stale
unfoldable pub standing_of : List ℕ → Bool → List ℕ
standing_of class stale = class_part class ++ key (codes "stale") ++ truth stale

-- the job of the newest report, which stands last
abbrev pub job_of : Row → Option ℕ
job_of row = option_map (λ report. report.job) (slice_get row.reports (length row.reports - 1))

-- ---- what a report says

unfoldable pub times_of : ReportMessage → List ℕ
times_of message =
    key (codes "operation") ++ text_or_null message.operation ++ key (codes "start") ++ text_or_null message.start ++ key (codes "end")
    ++ text_or_null message.end

unfoldable pub unmet_of : ReportMessage → List ℕ
unmet_of message = key (codes "not_in_desired_state") ++ unmet_json message.errors

unfoldable pub count_part : ReportMessage → List ℕ
count_part message = key (codes "count") ++ decimal (count_of message.errors message.status_data) ++ codes "}\n"

unfoldable pub said_of : ReportMessage → List ℕ
said_of message = times_of message ++ unmet_of message ++ count_part message

-- of no report, or of one that is none
abbrev pub run_of : Option ReportMessage → List ℕ
run_of None = codes ",\"operation\":null,\"start\":null,\"end\":null,\"not_in_desired_state\":[],\"count\":0}\n"
run_of (Some message) = said_of message

-- the whole line
unfoldable pub line_of : List ℕ → Row → List ℕ → Bool → Option ReportMessage → List ℕ
line_of store row class stale message =
    who_of store row ++ registered_of row ++ standing_of class stale ++ key (codes "job") ++ id_or_null (job_of row) ++ run_of message

-- ---- the line of a report

-- of this agent, of that job, with the name of the class that it gives, and what it says
unfoldable pub report_line : List ℕ → Row → ℕ → List ℕ → Option ReportMessage → List ℕ
report_line store row job class message =
    who_of store row ++ named_of row ++ class_part class ++ key (codes "job") ++ id_json job ++ run_of message

-- ---- the line of an agent that is forgotten

unfoldable pub forgotten_line : List ℕ → Row → List ℕ
forgotten_line store row =
    codes "{\"store\":" ++ json_text store ++ key (codes "forgotten") ++ id_json row.agent ++ named_of row ++ codes "}\n"
