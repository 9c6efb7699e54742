-- A file with both texts whose orchestra is refused.
use Rattle.std.proofs.Common.{[], Result, Ok, Err, refl}
use Rattle.cs_base.specs.{Lines.excerpt, declared.fault.OrcFault.OrcFault, declared.fault.CsdFault.CsdFault}
use Rattle.cs_base.specs.declared.width.SampleWidth.{SampleWidth}
use Rattle.cs_compile.proofs.SmallTexts.{first_line_refused}
use Rattle.cs_csd.proofs.Readings.{scan_reads}
use Rattle.cs_csd.specs.{Sections.no_text, declared.part.Parts.Parts}
use Rattle.cs_source.specs.{Meaning.Mean, Texts.csd, Worked.fault_in_line_4}
use Rattle.cs_base.specs.declared.fault.OrcKind.TheVariants as orc
use Rattle.cs_base.specs.declared.refusal.Refusal.TheVariants as why

abbrev fault : OrcFault
fault = record { line = 4; kind = orc.BadToken }

abbrev parts : Result Parts CsdFault
parts = Ok (record { orc = record { from = 42; to = 44; line = 4 }; sco = no_text })

pub in_line_4 : (width : SampleWidth) → Mean width (csd fault_in_line_4) (Err (why.Orc fault))
in_line_4 width =
    (parts, scan_reads fault_in_line_4, first_line_refused 4 width (excerpt 1 []) refl)
