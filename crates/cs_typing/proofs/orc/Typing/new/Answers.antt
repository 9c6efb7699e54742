use Rattle.std.proofs.Common.{◌≡◌, ◌∙◌, length, refl, ap}
use Rattle.cs_typing.specs.{Known.first_with, inner.Held.known_of, inner.Parts.begun}
use Rattle.cs_typing.specs.inner.Routines.{known_in, no_locals}
use Rattle.cs_typing.proofs.FirstSound.{begun_sound}
use Rattle.cs_grammar.specs.Tree as tree
use Rattle.cs_typing.proofs.orc.Typing.new.Goals as goal

pub returns : goal.returns
returns c =
    let e = c.args.expansion.now in
    let known : known_of c.new-2.result ≡ begun (tree.orchestra e.orc.now) =
    c.new-2.ensures ∙ ap (λ g. known_in (first_with g).shared no_locals) c.in_ok-globals.ensures in
    record {
      known = known;
      sound = λ channels.
          begun_sound e c.requires channels c.new-2.result c.in_ok-routines.routines (length e.library.definitions.now)
          known refl c.in_ok-routines.ensures.marks;
      made = c.new-3.ensures;
    }
