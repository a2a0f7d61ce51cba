-- The number of each limit.
use Rattle.std.specs.Prelude.{◌≡◌}
use Rattle.mof_values.specs.declared.limits.TheConstants.{MAX_IDENTIFIER, MAX_NAME_BYTES}
use Rattle.mof_syntax.specs.declared.limits.TheConstants.{MAX_DOCUMENT, MAX_ELEMENTS, MAX_INSTANCES, MAX_PROPERTIES}
use Rattle.dsc_document.specs.declared.limits.TheConstants.{MAX_ID, MAX_RESOURCES, MAX_VERSION}
use Rattle.meta_config.specs.declared.limits.TheConstants as metas
use Rattle.config_script.specs.declared.limits.TheConstants as config_scripts
use Rattle.report_log.specs.declared.limits.TheConstants as report_logs
use Rattle.node_state.specs.declared.limits.TheConstants as nodes
use Rattle.node_store.specs.declared.limits.TheConstants as node_stores
use Rattle.dsc_outside.specs.Clock.{last_moment}
use Rattle.dsc_outside.specs.Link.{answer_limit}
use Rattle.http_frames.specs.Limits.{answer_limits, head_bytes, header_lines, request_limits}
use Rattle.http_frames.specs.declared.limits.TheConstants.{MAX_MESSAGE_BODY}
use Rattle.pull_messages.specs.declared.limits.TheConstants.{MAX_LIST_ITEMS, MAX_TEXT_BYTES}
use Rattle.pull_outside.specs.declared.shelf.TheConstants.{LONGEST_ITEM}
use Rattle.pull_server.specs.Signed.{most_keys}
use Rattle.pull_store.specs.declared.limits.TheConstants as pull_stores
use Rattle.serve_words.specs.declared.command.TheConstants.{MAX_CONNECTIONS}
use Rattle.rehearsal.specs.declared.limits.TheConstants as rehearsals

-- a text in bytes, its instances, properties and elements; identifiers in characters, names of files in bytes; resources, ids and versions
pub record DocumentLimits : Type 0 where
  pub document : MAX_DOCUMENT ≡ 8388608
  pub instances : MAX_INSTANCES ≡ 4097
  pub properties : MAX_PROPERTIES ≡ 256
  pub elements : MAX_ELEMENTS ≡ 4096
  pub identifier : MAX_IDENTIFIER ≡ 255
  pub name : MAX_NAME_BYTES ≡ 255
  pub resources : MAX_RESOURCES ≡ 4096
  pub id : MAX_ID ≡ 256
  pub version : MAX_VERSION ≡ 64

-- a script of a configuration and one of a rehearsal, in bytes
pub record ScriptLimits : Type 0 where
  pub configuration : config_scripts.MAX_SCRIPT ≡ 8388608
  pub rehearsal : rehearsals.MAX_SCRIPT ≡ 4194304

-- its text in bytes, a URL in characters, its names and partial configurations
pub record MetaLimits : Type 0 where
  pub text : metas.MAX_META_TEXT ≡ 262144
  pub url : metas.MAX_URL ≡ 2048
  pub names : metas.MAX_NAMES ≡ 8
  pub partials : metas.MAX_PARTIALS ≡ 8

-- the parts of a slot in bytes, the reports that are kept, what a report lists; a bank of the store and a body in it, in bytes
pub record NodeLimits : Type 0 where
  pub parts : nodes.MAX_BYTES ≡ 16777216
  pub reports : nodes.MAX_REPORTS ≡ 16
  pub older_reports : nodes.OLDER_REPORTS ≡ 15
  pub listed : report_logs.LISTED_LIMIT ≡ 64
  pub report_parts : report_logs.MAX_PARTS ≡ 8
  pub bank : node_stores.BANK ≡ 67108864
  pub body : node_stores.MAX_BODY ≡ 16842752

-- a body, a text in it and an item of the shelf, in bytes; the items of a list
pub record MessageLimits : Type 0 where
  pub body : MAX_MESSAGE_BODY ≡ 131072
  pub text : MAX_TEXT_BYTES ≡ 65535
  pub items : MAX_LIST_ITEMS ≡ 16
  pub item : LONGEST_ITEM ≡ 62914560

-- the greatest moment of a clock, in seconds since 1970-01-01T00:00:00Z; what an answer over a link has fewer bytes than
pub record OutsideLimits : Type 0 where
  pub moment : last_moment ≡ 253402207200
  pub answer : answer_limit ≡ 67108864

-- the lines and the bytes of a head; the content of a body in bytes, and all bytes of one that comes in chunks, of a request and of an answer
pub record FrameLimits : Type 0 where
  pub lines : header_lines ≡ 64
  pub head : head_bytes ≡ 16384
  pub request : request_limits.content ≡ 131072
  pub request_in_chunks : request_limits.chunked ≡ 1048576
  pub answer : answer_limits.content ≡ 67108864
  pub answer_in_chunks : answer_limits.chunked ≡ 67108864

-- agents and the reports of each; the keys of a shelf that count; a message, a bank of the store and a body in it, in bytes; connections until the server ends
pub record ServerLimits : Type 0 where
  pub agents : pull_stores.MAX_ROWS ≡ 512
  pub reports : pull_stores.MAX_REPORTS ≡ 4
  pub keys : most_keys ≡ 64
  pub message : pull_stores.MAX_BYTES ≡ 131072
  pub bank : pull_stores.BANK ≡ 335544320
  pub body : pull_stores.MAX_BODY ≡ 196608
  pub connections : MAX_CONNECTIONS ≡ 1000000
