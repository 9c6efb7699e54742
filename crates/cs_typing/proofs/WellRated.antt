-- The typed form of an orchestra without a fault agrees with the rules of rates.
use Rattle.std.proofs.Common.{◌≡◌, None}
use Rattle.cs_grammar.specs.Tree.{Orchestra}
use Rattle.cs_typed.specs.WellRated.{IsWellRated}
use Rattle.cs_typing.specs.Settings.{header, settings_fault}
use Rattle.cs_typing.specs.Typing.{items, items_fault, first_known, type_fault, typed_of}
use Rattle.cs_base.proofs.Tests.{both_none}
use Rattle.cs_typing.proofs.Rated.{items_rated}

pub orchestra_rated : (o : Orchestra) → type_fault o ≡ None → IsWellRated (typed_of o)
orchestra_rated o h =
    let channels = (header o.head).nchnls in
    let n = first_known o in
    let parts = items o.zero o.instrs in
    let right = (both_none (settings_fault o.head o.zero) (items_fault channels n parts) h).1 in
    let rated = items_rated channels n parts right in record { zero = rated.0; instrs = rated.1 }
