-- Renamings of local variables.
use Rattle.std.specs.Prelude.{ℕ, false, List, map, ◌≡◌, if◌then◌else◌}
use Rattle.cs_words.specs.Names.{name_rate, is_global}
use Rattle.cs_grammar.specs.Renaming.{renamed_expression, renamed_argument}
use Rattle.cs_grammar.specs.Tree.{Statement, set, call, choose, Block, no_stmt, andthen, Arms, otherwise, arm}
use Rattle.cs_typing.specs.Known.{RateNames, KnownHere, known_with}

-- A renaming of local variables: it keeps rates, maps local names to local names, and maps different names to
-- different names.
pub record IsRenaming (f : List ℕ → List ℕ) : Type 0 where
  pub rate : (x : List ℕ) → is_global x ≡ false → name_rate (f x) ≡ name_rate x
  pub stays : (x : List ℕ) → is_global x ≡ false → is_global (f x) ≡ false
  pub apart : (x y : List ℕ) → is_global x ≡ false → is_global y ≡ false → f x ≡ f y → x ≡ y

-- a variable's new name; a global variable keeps its name
abbrev pub renamed_name : (List ℕ → List ℕ) → List ℕ → List ℕ
renamed_name f x = if is_global x then x else f x

-- statements with renamed variables; the names of opcodes are unchanged
abbrev mutual
  pub renamed : (List ℕ → List ℕ) → Statement → Statement
  renamed f (set line name e) = set line (renamed_name f name) (renamed_expression (renamed_name f) e)
  renamed f (call line results callee args) =
      call line (map (renamed_name f) results) callee (map (renamed_argument (renamed_name f)) args)
  renamed f (choose line list) = choose line (renamed_arms f list)

  pub renamed_block : (List ℕ → List ℕ) → Block → Block
  renamed_block f no_stmt = no_stmt
  renamed_block f (andthen x rest) = andthen (renamed f x) (renamed_block f rest)

  pub renamed_arms : (List ℕ → List ℕ) → Arms → Arms
  renamed_arms f (otherwise b) = otherwise (renamed_block f b)
  renamed_arms f (arm c b rest) = arm (renamed_expression (renamed_name f) c) (renamed_block f b) (renamed_arms f rest)

-- lists of names by rate, with each name renamed in its place
abbrev pub renamed_table : (List ℕ → List ℕ) → RateNames → RateNames
renamed_table f t = record {
  init = map (renamed_name f) t.init;
  control = map (renamed_name f) t.control;
  audio = map (renamed_name f) t.audio;
}

-- the known names, with the local variables renamed
abbrev pub renamed_known : (List ℕ → List ℕ) → KnownHere → KnownHere
renamed_known f n = known_with n.shared (renamed_table f n.locals)
