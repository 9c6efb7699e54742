-- The result of a return by `?` that turns a fault into a refusal, and pieces that are too long.
use Rattle.std.proofs.Common.{◌≡◌, ◌≤◌, ◌*◌, Bool, true, false, nat_lt, Some, None, Result, Ok, Err, refl, sym, subst}
use Rattle.std.proofs.Common.{ap, ◌∙◌, arith}
use Rattle.std.specs.{Option.option_or, Result.IsErrAnd}
use Rattle.std.proofs.lemmas.Bool.Decides.{nat_tests}
use Rattle.cs_base.specs.{Faults.or_by, Faults.passed, Limits.most_wav_bytes, declared.fault.Or.Or}
use Rattle.cs_base.specs.{declared.head.Head.Head, declared.limit.LimitHit.LimitHit, declared.refusal.Refusal.Refusal}
use Rattle.cs_base.specs.declared.width.SampleWidth.{SampleWidth}
use Rattle.cs_cells.specs.Areas.{limit_passed}
use Rattle.cs_piece.specs.Compositions.{areas_in, composition}
use Rattle.cs_tempo.specs.declared.plot.Plot.{Plot}
use Rattle.cs_wav.specs.Wav.{size_of}
use Rattle.cs_compile.specs.Meaning.{is_too_long, passed_if, piece_of, unless_passed}
use Rattle.cs_base.specs.declared.fault.Or.TheVariants as or
use Rattle.cs_base.specs.declared.limit.Limit.TheVariants as limit
use Rattle.cs_base.specs.declared.refusal.Refusal.TheVariants as why
use Rattle.cs_typed.specs.TypedTree as typed

-- what holds for the refusal of a fault holds for the refusal that is returned
pub told : {A F : Type 0} (k : F → Refusal) (Q : Refusal → Type 0) (r : Result A (Or Refusal)) (e : Or F)
    → IsErrAnd r (λ y. y ≡ or_by k e)
    → ((f : F) → e ≡ or.Fault f → Q (k f)) → (w : Refusal) → r ≡ Err (or.Fault w) → Q w
told k Q (Ok b) e i h w is = elim i [ ]
told k Q (Err g) (or.Fault f) i h w is = let same : k f ≡ w = cc in subst Q same (h f refl)
told k Q (Err g) or.OutOfMemory i h w is = absurd (cc)

-- PIECES by their limits

pub limited : (width : SampleWidth) (o : typed.Orchestra) (head : Head) (plot : Plot) (hit : LimitHit)
    → limit_passed (areas_in o plot.events) ≡ Some hit
    → piece_of width o head plot ≡ Err (why.Limit hit)
limited width o head plot hit passes =
    ap (λ f. unless_passed (option_or f (passed_if limit.WavBytes (is_too_long width head plot.cycles)))
    (composition o plot)) passes

pub too_long : (width : SampleWidth) (o : typed.Orchestra) (head : Head) (plot : Plot) (b : Bool)
    → b ≡ is_too_long width head plot.cycles → b ≡ true
    → limit_passed (areas_in o plot.events) ≡ None → piece_of width o head plot ≡ Err (passed limit.WavBytes)
too_long width o head plot b is long within =
    ap (λ f. unless_passed (option_or f (passed_if limit.WavBytes (is_too_long width head plot.cycles)))
    (composition o plot)) within
    ∙ ap (λ l. unless_passed (option_or None (passed_if limit.WavBytes l)) (composition o plot)) (sym is ∙ long)

pub short : (width : SampleWidth) (o : typed.Orchestra) (head : Head) (plot : Plot) (b : Bool)
    → b ≡ is_too_long width head plot.cycles → b ≡ false
    → limit_passed (areas_in o plot.events) ≡ None → piece_of width o head plot ≡ Ok (composition o plot)
short width o head plot b is long within =
    ap (λ f. unless_passed (option_or f (passed_if limit.WavBytes (is_too_long width head plot.cycles)))
    (composition o plot)) within
    ∙ ap (λ l. unless_passed (option_or None (passed_if limit.WavBytes l)) (composition o plot)) (sym is ∙ long)

pub fits : (width : SampleWidth) (head : Head) (plot : Plot) (b : Bool) → b ≡ is_too_long width head plot.cycles
    → b ≡ false
    → size_of width (plot.cycles * head.ksmps) head ≤ most_wav_bytes
fits width head plot b is long =
    let no : nat_lt most_wav_bytes (size_of width (plot.cycles * head.ksmps) head) ≡ false =
    sym is ∙ long in grind (arith, nat_tests)
