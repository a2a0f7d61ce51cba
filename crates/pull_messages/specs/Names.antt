-- The names of fields.
use Rattle.std.specs.Prelude.{ℕ, List, codes}
use Rattle.pull_messages.specs.declared.field.Field.{Field}
use Rattle.pull_messages.specs.declared.field.Field.TheVariants.{AgentInformation, LCMVersion, NodeName, IPAddress, ConfigurationNames, RegistrationInformation, ClientStatus, Checksum, ConfigurationName, ChecksumAlgorithm, NodeStatus, Details, Status, JobId, OperationType, RefreshMode, ReportFormatVersion, ConfigurationVersion, StartTime, EndTime, RebootRequested, Errors, StatusData, Body, ProtocolVersion}

-- as a message or a header spells it
abbrev pub name_of : Field → List ℕ
name_of AgentInformation = codes "AgentInformation"
name_of LCMVersion = codes "LCMVersion"
name_of NodeName = codes "NodeName"
name_of IPAddress = codes "IPAddress"
name_of ConfigurationNames = codes "ConfigurationNames"
name_of RegistrationInformation = codes "RegistrationInformation"
name_of ClientStatus = codes "ClientStatus"
name_of Checksum = codes "Checksum"
name_of ConfigurationName = codes "ConfigurationName"
name_of ChecksumAlgorithm = codes "ChecksumAlgorithm"
name_of NodeStatus = codes "NodeStatus"
name_of Details = codes "Details"
name_of Status = codes "Status"
name_of JobId = codes "JobId"
name_of OperationType = codes "OperationType"
name_of RefreshMode = codes "RefreshMode"
name_of ReportFormatVersion = codes "ReportFormatVersion"
name_of ConfigurationVersion = codes "ConfigurationVersion"
name_of StartTime = codes "StartTime"
name_of EndTime = codes "EndTime"
name_of RebootRequested = codes "RebootRequested"
name_of Errors = codes "Errors"
name_of StatusData = codes "StatusData"
name_of Body = codes "Body"
name_of ProtocolVersion = codes "ProtocolVersion"
