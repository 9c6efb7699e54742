-- Uses as rows of matches: one more use, and the option or name that is still open.
use Rattle.std.proofs.Common.{arith, ◌≡◌, ◌&&◌, ◌||◌, ◌∙◌, ◌++◌, ◌∷◌, ℕ, Bool, true, false, not, cond, List, [], Option}
use Rattle.std.proofs.Common.{Some, None, refl, sym, ap, ap₂, codes, bytes_eq, append_assoc, true≢false}
use Rattle.std.proofs.lemmas.{Grind.common_steps, Bool.or_parts, Bool.and_parts, Bool.and_left, List.map-append}
use Rattle.std.specs.Bool.{⊤}
use Rattle.clap.proofs.WalkLemmas.{list_any-map}
use Rattle.clap.specs.{Kinds.Kinds, Kinds.or_else, Faults.use_fault, Faults.settle_fault, Faults.react_fault}
use Rattle.clap.specs.{Values.reading_of, ValueTests.accepts, Walk.reacted, declared.error.kind.ErrorKind.ErrorKind}
use Rattle.clap.specs.Walk.{Held, Row, Rule, more_values, used as used_row, at_row, has_row, arg_by_id, settled}
use Rattle.clap.specs.declared.parser.matches.ValueSource.TheVariants.{CommandLine}
use Rattle.cs_arguments.specs.Reading.{Text, Use, has_use, is_value, stands}
use Rattle.cs_arguments.specs.Command.{flag_rule, option_rule, parser_of}
use Rattle.cs_arguments.specs.Taken.{good, row, rows}
use Rattle.clap.specs.declared.builder.value_parser.Reading.TheVariants as reading
use Rattle.clap.specs.declared.error.kind.ErrorKind.TheVariants as kind

-- ---- faults: it only matters whether there is one

abbrev pub clear : Kinds → Bool
clear [] = true
clear (k ∷ ks) = false

pub clear_nil : (a : Kinds) → clear a ≡ true → a ≡ []
clear_nil [] e = refl
clear_nil (k ∷ ks) e = absurd (true≢false (sym e))

pub clear_or : (a b : Kinds) → clear (or_else a b) ≡ (clear a && clear b)
clear_or [] b = refl
clear_or (k ∷ ks) b = refl

-- ---- uses as rows

pub rows_more : (us : List Use) (u : Use) → rows (us ++ u ∷ []) ≡ rows us ++ row u ∷ []
rows_more us u = map-append row us (u ∷ [])

pub has_row-rows : (key : Text) (us : List Use) → has_row key (rows us) ≡ has_use key us
has_row-rows key us = sym (list_any-map (λ r. bytes_eq r.id key) row us)

pub no_row : (key : Text) (change : Row → List Row) (missing : List Row) (us : List Use) → has_use key us ≡ false
    → at_row key change missing (rows us) ≡ rows us ++ missing
no_row key change missing [] none = refl
no_row key change missing (u ∷ us) none =
    let parts = or_parts (bytes_eq u.0 key) (has_use key us) none in
    rw parts.0 (ap (λ rs. row u ∷ rs) (no_row key change missing us parts.1))

-- the rows after a use of an option that had none yet
added : (key : Text) (value : Text) (us : List Use) (change : Row → List Row) → has_use key us ≡ false
    → at_row key change (row (key, value) ∷ []) (at_row key (λ _. []) [] (rows us)) ≡ rows (us ++ (key, value) ∷ [])
added key value us change none =
    ap (at_row key change (row (key, value) ∷ [])) (no_row key (λ _. []) [] us none ∙ nothing (rows us))
    ∙ no_row key change (row (key, value) ∷ []) us none ∙ sym (rows_more us (key, value))
  where
    nothing : (rs : List Row) → rs ++ [] ≡ rs
    nothing [] = refl
    nothing (r ∷ rs) = ap (λ l. r ∷ l) (nothing rs)

-- ---- one more use

-- a use that is valid together with these
abbrev pub joins : List Use → Use → Bool
joins us u = not (has_use u.0 us) && is_value u

pub has_more : (key : Text) (us : List Use) (u : Use)
    → has_use key (us ++ u ∷ []) ≡ (has_use key us || bytes_eq u.0 key)
has_more key [] u = grind (arith, common_steps, bytes_eq)
has_more key (v ∷ us) u = grind (arith, common_steps, bytes_eq, has_more key us u)

stands_more : (before us : List Use) (u : Use)
    → stands before (us ++ u ∷ []) ≡ (stands before us && joins (before ++ us) u)
stands_more before [] u = grind (arith, common_steps)
stands_more before (v ∷ us) u =
    go (joins before v) (stands_more (before ++ v ∷ []) us u
    ∙ ap (λ l. stands (before ++ v ∷ []) us && joins l u) (append_assoc before (v ∷ []) us))
  where
    go : (b : Bool) → stands (before ++ v ∷ [])
        (us ++ u ∷ []) ≡ (stands (before ++ v ∷ []) us && joins (before ++ v ∷ us) u)
        → (b && stands (before ++ v ∷ []) (us ++ u ∷ []))
        ≡ ((b && stands (before ++ v ∷ []) us) && joins (before ++ v ∷ us) u)
    go true e = e
    go false e = refl

pub good_more : (us : List Use) (u : Use) → good (us ++ u ∷ []) ≡ (good us && joins us u)
good_more us u = stands_more [] us u

pub bad_more : (us : List Use) (u : Use) → good us ≡ false → good (us ++ u ∷ []) ≡ false
bad_more us u bad = good_more us u ∙ and_left (good us) (joins us u) bad

pub good_before : (us : List Use) (u : Use) → good (us ++ u ∷ []) ≡ true → (good us ≡ true) × (joins us u ≡ true)
good_before us u h = and_parts (good us) (joins us u) (sym (good_more us u) ∙ h)

pub joins_new : (us : List Use) (u : Use) → joins us u ≡ true → has_use u.0 us ≡ false
joins_new us u h = grind (arith, common_steps, and_parts, not)

-- ---- the result of a use of a rule, whatever was used before

pub record Does (a : Rule) (values : List Text) (u : Use) : Type 0 where
  pub clears : (us : List Use) → clear (use_fault false a values (rows us)) ≡ joins us u
  pub adds : (us : List Use) → has_use u.0 us ≡ false → used_row a values (rows us) ≡ rows (us ++ u ∷ [])

judged : (r b g v : Bool) (k : ErrorKind) (l : ErrorKind) → r ≡ b → g ≡ v
    → clear (or_else (cond (r && true) (k ∷ []) []) (or_else (cond g [] (l ∷ [])) [])) ≡ (not b && v)
judged true b true v k l e f = ap₂ (λ x y. not x && y) e f
judged true b false v k l e f = ap₂ (λ x y. not x && y) e f
judged false b true v k l e f = ap₂ (λ x y. not x && y) e f
judged false b false v k l e f = ap₂ (λ x y. not x && y) e f

-- the values of an option or name are read the way `is_value` says
abbrev pub Judges : Text → Type 0
Judges key = (v : Text) → accepts false (parser_of key) v ≡ is_value (key, v)

pub option_does : (key : Text) (long : Option Text) (short index : Option ℕ) (value : Text) → Judges key
    → Does (option_rule key long short index) (value ∷ []) (key, value)
option_does key long short index value reads = record {
  clears = λ us. judged (has_row key (rows us)) (has_use key us) (accepts false (parser_of key) value)
      (is_value (key, value)) _ _ (has_row-rows key us) (reads value);
  adds = λ us none. added key value us (more_values CommandLine (value ∷ [])) none;
}

abbrev pub IsFlagKey : Text → Type 0
IsFlagKey key = (reading_of (parser_of key) ≡ reading.AsWritten) × (is_value (key, codes "true") ≡ true)

pub flag_does : (key : Text) (long : Option Text) (short : Option ℕ) → IsFlagKey key
    → Does (flag_rule key long short) [] (key, codes "true")
flag_does key long short is = grind (arith, common_steps, added, codes, has_row-rows, judged)

-- ---- what is held, if the last use may still be open

abbrev pub open_of : Option Use → Option (Text × List Text)
open_of None = None
open_of (Some u) = Some (u.0, u.1 ∷ [])

abbrev pub held : List Use → Option Use → Held
held us p = record { rows = rows us; pending = open_of p; skip = 0 }

abbrev pub with_open : List Use → Option Use → List Use
with_open us None = us
with_open us (Some u) = us ++ u ∷ []

-- the option or name that has this id among the rules
pub record IsKey (c : List Rule) (key : Text) : Type 0 where
  pub long : Option Text
  pub short : Option ℕ
  pub index : Option ℕ
  pub found : arg_by_id c key ≡ Some (option_rule key long short index)
  pub reads : Judges key

abbrev pub IsOpen : List Rule → Option Use → Type 0
IsOpen c None = ⊤
IsOpen c (Some u) = IsKey c u.0

pub settle_clear : (c : List Rule) (us : List Use) (p : Option Use) → IsOpen c p → good us ≡ true
    → clear (settle_fault c false (held us p)) ≡ good (with_open us p)
settle_clear c us None opened fine = sym fine
settle_clear c us (Some u) opened fine =
    rw opened.found ((option_does u.0 opened.long opened.short opened.index u.1 opened.reads).clears us
    ∙ sym (good_more us u ∙ ap (λ b. b && joins us u) fine))

pub settled_held : (c : List Rule) (us : List Use) (p : Option Use) → IsOpen c p → good (with_open us p) ≡ true
    → settled c (held us p) ≡ held (with_open us p) None
settled_held c us None opened fine = refl
settled_held c us (Some u) opened fine =
    let new = joins_new us u (good_before us u fine).1 in
    rw opened.found (ap (λ rs. record { rows = rs; pending = None; skip = 0 })
    ((option_does u.0 opened.long opened.short opened.index u.1 opened.reads).adds us new))

pub react_clear : (c : List Rule) (a : Rule) (values : List Text) (us : List Use) (p : Option Use) (u : Use)
    → Does a values u → IsOpen c p → good us ≡ true
    → clear (react_fault c false a values (held us p)) ≡ good (with_open us p ++ u ∷ [])
react_clear c a values us p u does opened fine =
    grind (arith, common_steps, clear_or, good_more, settle_clear, settled_held)

pub react_held : (c : List Rule) (a : Rule) (values : List Text) (us : List Use) (p : Option Use) (u : Use)
    → Does a values u → IsOpen c p
    → good (with_open us p ++ u ∷ []) ≡ true → reacted c a values (held us p) ≡ held (with_open us p ++ u ∷ []) None
react_held c a values us p u does opened fine =
    let parts = good_before (with_open us p) u fine in
    ap {A = Held} (λ h. record h { rows = used_row a values h.rows; pending = None })
    (settled_held c us p opened parts.0) ∙ ap (λ rs. record { rows = rs; pending = None; skip = 0 })
    (does.adds (with_open us p) (joins_new (with_open us p) u parts.1))
