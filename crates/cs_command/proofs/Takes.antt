-- What clap's result says about the arguments.
use Rattle.std.proofs.Common.{◌≡◌, ◌∙◌, ◌∷◌, inl, inr, Bool, true, false, cond, List, [], Option, Some, None, Result}
use Rattle.std.proofs.Common.{Ok, Err, IfOk, is_some, option_and_then, All, IsUtf8, get_or, refl, sym, ap, subst}
use Rattle.std.proofs.Common.{string_bytes, String, true≢false}
use Rattle.std.specs.Global.{Global}
use Rattle.std.proofs.lemmas.{Str.IsUtf8-string_bytes, List.Elements.All-map}
use Rattle.clap.specs.{Faults.fault_of, Faults.is_simple_and_free, Values.kind_of, declared.error.Error.Error}
use Rattle.clap.specs.{declared.error.kind.ErrorKind.ErrorKind, declared.parser.matches.ArgMatches.ArgMatches}
use Rattle.clap.specs.Kinds.{FailsBy, HasKind, IsAmong, Kinds}
use Rattle.clap.specs.Simple.{App, HasMatchesOf, is_simple, matches_of}
use Rattle.cs_arguments.specs.Reading.{Said, Text, asked, asked_by, reading, said, start}
use Rattle.cs_arguments.specs.Command.{the_app}
use Rattle.cs_arguments.specs.Taken.{accepted, good, is_taken, uses_in, uses_or}
use Rattle.cs_arguments.proofs.{Walking.clear, Ends.finds, Ends.is_free, Ends.is_plain, Ends.refuses}
use Rattle.cs_command.specs.{Words.texts, inner.Matched.IsMatched}
use Rattle.clap.specs.declared.error.kind.ErrorKind.TheVariants as kind

utf8_texts : (words : List (String Global)) → All IsUtf8 (texts words)
utf8_texts words = All-map IsUtf8 (λ (w : String Global). string_bytes w) words
    (λ k d lt. IsUtf8-string_bytes (get_or words k d))

-- uses of accepted arguments are valid together
taken_good : (o : Option Said) → accepted o ≡ true → good (uses_or o) ≡ true
taken_good None e = absurd (true≢false (sym e))
taken_good (Some s) e = go (is_some s.wants) e
  where
    go : (b : Bool) → cond b false (good s.uses) ≡ true → good s.uses ≡ true
    go true e = absurd (true≢false (sym e))
    go false e = e

pub taken : (words : List (String Global)) (a : App) (r : Result ArgMatches Error) (m : ArgMatches) → a ≡ the_app
    → (is_simple_and_free a ≡ true → FailsBy (fault_of a (texts words)) r) → IfOk r (HasMatchesOf a (texts words))
    → r ≡ Ok m → IsMatched (texts words) (Some m)
taken words a r m is kinds matches e =
    let fails : FailsBy (fault_of a (texts words)) (Ok m) =
    subst (FailsBy (fault_of a (texts words))) e (kinds (ap is_simple_and_free is ∙ is_free)) in
    let none : fault_of a (texts words) ≡ [] = fails in
    let has : HasMatchesOf a (texts words) m =
    subst (λ (q : Result ArgMatches Error). IfOk q (HasMatchesOf a (texts words))) e matches in
    let fine : is_taken (texts words) ≡ true =
    sym (refuses (texts words) (utf8_texts words)) ∙ ap (λ b. clear (fault_of b (texts words))) (sym is)
    ∙ ap clear none in (
      fine,
      (
        taken_good (said start (texts words)) fine,
        (has (ap is_simple is ∙ is_plain)).0 ∙ ap (λ b. matches_of b (texts words)) is
            ∙ finds (texts words) (utf8_texts words) fine,
      ),
    )

not_clear : (k : ErrorKind) (ks : Kinds) → IsAmong k ks → clear ks ≡ false
not_clear k [] among = absurd among
not_clear k (x ∷ ks) among = refl

pub refused : (words : List (String Global)) (a : App) (r : Result ArgMatches Error) (x : Error) → a ≡ the_app
    → (is_simple_and_free a ≡ true → FailsBy (fault_of a (texts words)) r) → r ≡ Err x
    → (kind_of x ≡ kind.OutOfMemory → ⊥) → IsMatched (texts words) None
refused words a r x is kinds e other =
    let fails : HasKind (fault_of a (texts words)) x =
    subst (FailsBy (fault_of a (texts words))) e (kinds (ap is_simple_and_free is ∙ is_free)) in
    let faulty : clear (fault_of a (texts words)) ≡ false = go fails in
    sym (refuses (texts words) (utf8_texts words)) ∙ ap (λ b. clear (fault_of b (texts words))) (sym is) ∙ faulty
  where
    go : HasKind (fault_of a (texts words)) x → clear (fault_of a (texts words)) ≡ false
    go (inl memory) = absurd (other memory)
    go (inr among) = not_clear (kind_of x) (fault_of a (texts words)) among

-- ---- the reading, from the uses

pub reads : (words : List Text) → is_taken words ≡ true → reading words ≡ asked_by (uses_in words)
reads words fine = go (said start words) fine
  where
    go : (o : Option Said) → accepted o ≡ true → option_and_then asked o ≡ asked_by (uses_or o)
    go None e = absurd (true≢false (sym e))
    go (Some s) e = by (is_some s.wants) e
      where
        by : (b : Bool) → cond b false (good s.uses) ≡ true
            → cond b None (cond (good s.uses) (asked_by s.uses) None) ≡ asked_by s.uses
        by true e = absurd (true≢false (sym e))
        by false e = ap (λ b. cond b (asked_by s.uses) None) e

pub unread : (words : List Text) → is_taken words ≡ false → reading words ≡ None
unread words bad = go (said start words) bad
  where
    go : (o : Option Said) → accepted o ≡ false → option_and_then asked o ≡ None
    go None e = refl
    go (Some s) e = by (is_some s.wants) e
      where
        by : (b : Bool) → cond b false (good s.uses) ≡ false
            → cond b None (cond (good s.uses) (asked_by s.uses) None) ≡ None
        by true e = refl
        by false e = ap (λ b. cond b (asked_by s.uses) None) e
