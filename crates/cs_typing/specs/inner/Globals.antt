-- The names that statements assign in the text as written, including the names that a user-defined opcode
-- assigns when it is called.
use Rattle.std.specs.Prelude.{ℕ, true, List, [], ◌∷◌, ◌++◌, ◌≡◌, length, take, slice_get, Option, Some, None, nat_lt}
use Rattle.std.specs.List.{All, prefix_len}
use Rattle.cs_words.specs.Names.{is_global}
use Rattle.cs_grammar.specs.{declared.tree.Callee.Callee, Tree.Definition, Tree.Instrument, Tree.block}
use Rattle.cs_grammar.specs.Tree.{Statement, set, call, choose, Block, no_stmt, andthen, Arms, otherwise, arm}
use Rattle.cs_grammar.specs.declared.tree.Arm.{Arm as Arm', out-Arm}
use Rattle.cs_typing.specs.{Known.RateNames, Known.in_table, Typing.given_globals, declared.globals.Front.Front}
use Rattle.cs_udo.specs.ByName.{with_item, with_items}
use Rattle.cs_typing.specs.declared.globals.GivenGlobals.{GivenGlobals}
use Rattle.cs_udo.specs.Library.{definitions_of}
use Rattle.cs_grammar.specs.declared.tree.Callee.TheVariants as callee

-- the names that each user-defined opcode assigns, for the opcodes that may be called in some context
abbrev pub Givers : Type 0
Givers = List ℕ → Option (List (List ℕ))

-- the names, if there are any
abbrev pub names_of : Option (List (List ℕ)) → List (List ℕ)
names_of None = []
names_of (Some xs) = xs

-- the names that the called opcode assigns, if it is user-defined
abbrev pub called_names : Givers → Callee → List (List ℕ)
called_names givers (callee.Opcode o) = []
called_names givers (callee.Name name) = names_of (givers name)

-- the names that statements assign, in the order of the text
abbrev mutual
  pub names_in : Givers → Statement → List (List ℕ)
  names_in givers (set line x e) = x ∷ []
  names_in givers (call line xs c args) = called_names givers c ++ xs
  names_in givers (choose line list) = names_in_arms givers list

  pub names_in_block : Givers → Block → List (List ℕ)
  names_in_block givers no_stmt = []
  names_in_block givers (andthen x rest) = names_in givers x ++ names_in_block givers rest

  pub names_in_arms : Givers → Arms → List (List ℕ)
  names_in_arms givers (otherwise b) = names_in_block givers b
  names_in_arms givers (arm c b rest) = names_in_block givers b ++ names_in_arms givers rest

-- the names that a definition assigns
abbrev pub names_given : Givers → Definition → List (List ℕ)
names_given givers d = names_in_block givers d.body

-- the names by opcode, with one more definition
abbrev pub with_giver : Givers → Definition → Givers
with_giver givers d = with_item names_given givers d

-- the names by opcode, with more definitions
abbrev pub with_givers : Givers → List Definition → Givers
with_givers givers ds = with_items names_given givers ds

-- the names that each of the first definitions assigns
abbrev pub givers_of : List Definition → ℕ → Givers
givers_of ds visible = with_givers (λ name. None) (take visible ds)

-- the names that instruments assign, each with the definitions before it
abbrev pub names_in_instruments : List Definition → List Instrument → List (List ℕ)
names_in_instruments ds [] = []
names_in_instruments ds (i ∷ rest) =
    names_in_block (givers_of ds (prefix_len (λ d. nat_lt d.line i.line) ds)) i.body ++ names_in_instruments ds rest

-- the global variables among these names are in the table
abbrev pub Has : RateNames → List (List ℕ) → Type 0
Has t xs = All (λ x. is_global x ≡ true → in_table t x ≡ true) xs

-- the names that the opcodes before a part of the text assign
abbrev pub givers_in : Front → Givers
givers_in f = givers_of (definitions_of f.library.now) f.visible

-- the names that the bodies of arms assign
abbrev pub names_in_bodies : Givers → List Arm' → List (List ℕ)
names_in_bodies givers [] = []
names_in_bodies givers (a ∷ rest) =
    names_in_block givers (block (out-Arm a).body.items) ++ names_in_bodies givers rest

-- each definition has a mark, and the names that a marked one assigns are in the table
pub record IsDone (ds : List Definition) (g : GivenGlobals) : Type 0 where
  pub marks : length g.done.items ≡ length ds
  pub has : (k : ℕ) (d : Definition) → slice_get g.done.items k ≡ Some true
      → slice_get ds k ≡ Some d → Has g.names (names_in_block (givers_of ds k) d.body)

-- these names were added, and the marks are right
pub record Looks (f : Front) (old new : GivenGlobals) (xs : List (List ℕ)) : Type 0 where
  pub names : new.names ≡ given_globals old.names xs
  pub done : IsDone (definitions_of f.library.now) new
