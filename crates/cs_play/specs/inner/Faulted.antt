-- Why a run doesn't lead to sound, as the status with which it ends and the name that can't be read.
use Rattle.std.specs.Prelude.{ℕ, ◌≡◌, List, []}
use Rattle.cs_command.specs.declared.reading.Unread.{Unread}
use Rattle.cs_perform.specs.declared.order.PlayFault.{PlayFault}
use Rattle.cs_edge.specs.Moves.{SinkTold}
use Rattle.cs_report.specs.{Status.refusal, Talk.Says, Talk.message_of, declared.status.Status.Status}
use Rattle.cs_source.specs.declared.loading.LoadFault.{LoadFault}
use Rattle.cs_command.specs.declared.reading.Unread.TheVariants as unasked
use Rattle.cs_perform.specs.declared.order.PlayFault.TheVariants as fault
use Rattle.cs_report.specs.declared.status.Status.TheVariants as status
use Rattle.cs_source.specs.declared.loading.LoadFault.TheVariants as unloaded

-- the status if the arguments can't be read
abbrev pub unread_status : Unread → Status
unread_status unasked.Usage = status.Usage
unread_status unasked.OutOfMemory = status.OutOfMemory

-- the status of a fault of loading
abbrev pub load_status : LoadFault → Status
load_status (unloaded.Unread name) = status.ShelfFault
load_status (unloaded.Refused r) = refusal r
load_status unloaded.OutOfMemory = status.OutOfMemory

-- the name that can't be read, empty for other faults
abbrev pub name_in : LoadFault → List ℕ
name_in (unloaded.Unread name) = name.now
name_in (unloaded.Refused r) = []
name_in unloaded.OutOfMemory = []

-- the status of a fault of performing
abbrev pub fault_status : PlayFault → Status
fault_status fault.Sink = status.SinkFault
fault_status fault.OutOfMemory = status.OutOfMemory

-- it was printed that there is no piece, and this is the status
pub record IsNotLoaded (s : LoadFault) (result : Status) (before now : SinkTold) : Type 0 where
  pub status_is : result ≡ load_status s
  pub line : Says before now (message_of (load_status s) (name_in s))
