-- Tests of arguments, one after another.
use Rattle.std.proofs.Common.{◌≡◌, ◌∙◌, ◌+◌, ◌<◌, ◌&&◌, ℕ, Bool, List, ◌∷◌, drop, get_or, length, map, sym, ap}
use Rattle.cs_grammar.specs.{declared.tree.Arg.Arg, Tree.Argument, Tree.argument}
use Rattle.cs_udo.proofs.Places.{dropped}

-- the test of the first argument and the test of the rest together are the test of all
pub all_next : (f : List Argument → Bool) (args : List Arg) (i : ℕ) (a : Arg) (test rest b whole : Bool)
    → i < length args → a ≡ get_or args i a → f (argument a ∷ map argument (drop (i + 1) args)) ≡ (test && rest)
    → test ≡ b → f (map argument (drop i args)) ≡ whole → (b && rest) ≡ whole
all_next f args i a test rest b whole l e split t was =
    sym (ap (λ c. c && rest) t) ∙ sym split ∙ sym (ap (λ xs. f (map argument xs)) (dropped args i a l e)) ∙ was
