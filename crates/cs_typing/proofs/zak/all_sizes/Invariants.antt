use Rattle.std.proofs.Common.{◌≡◌, drop, map}
use Rattle.std.specs.List.{list_all}
use Rattle.cs_grammar.specs.Tree.{argument}
use Rattle.cs_typing.specs.Settings.{is_size}
use Rattle.cs_typing.proofs.zak.all_sizes.Given as goal

abbrev pub invariant-loop-arg : goal.invariant-loop-arg
invariant-loop-arg l =
    list_all is_size (map argument (drop l.arg-index l.args)) ≡ list_all is_size (map argument l.args)
