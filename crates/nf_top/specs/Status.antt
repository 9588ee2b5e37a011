-- The number of each status, with which the program ends, and the status of each refusal.
use Rattle.std.specs.Prelude.{ℕ}
use Rattle.nf_top.specs.declared.status.Status.{Status}
use Rattle.nf_top.specs.declared.status.Status.TheVariants as status
use Rattle.nf_top.specs.declared.refusal.Refusal.{Refusal}
use Rattle.nf_top.specs.declared.refusal.Refusal.TheVariants as refusal

-- Each status has a number of its own, and 1 is none of them.
abbrev pub status_number : Status → ℕ
status_number status.Finished = 0
status_number status.Usage = 2
status_number status.ProgramRefused = 3
status_number status.DataRefused = 4
status_number status.ReadFault = 5
status_number status.WriteFault = 6
status_number status.Absent = 7
status_number status.RangePassed = 8
status_number status.CheckRefused = 9
status_number status.NoMemory = 10
status_number status.WarmRefused = 11

-- A refusal ends the call with this status.
abbrev pub refusal_status : Refusal → Status
refusal_status refusal.Usage = status.Usage
refusal_status (refusal.NoProgram fault) = status.ProgramRefused
refusal_status refusal.NotStanding = status.ProgramRefused
refusal_status refusal.ReadFault = status.ReadFault
refusal_status (refusal.Absent name) = status.Absent
refusal_status (refusal.TooLong set) = status.DataRefused
refusal_status (refusal.NoTable set fault) = status.DataRefused
refusal_status (refusal.NoRoles set fault) = status.DataRefused
refusal_status (refusal.NoNetwork fault) = status.DataRefused
refusal_status (refusal.NoCertificate fault) = status.CheckRefused
refusal_status (refusal.NotValid why) = status.CheckRefused
refusal_status (refusal.Range passed) = status.RangePassed
