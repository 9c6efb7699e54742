-- Renaming local variables changes nothing.
use Rattle.std.proofs.Common.{◌≡◌, ◌∙◌, ℕ, ◌+◌, Bool, cond, true, false, not, ◌&&◌, ◌||◌, if◌then◌else◌, List, [], ◌∷◌}
use Rattle.std.proofs.Common.{◌++◌, map, Some, None, refl, sym, ap}
use Rattle.std.specs.{Str.bytes_eq, Option.option_or}
use Rattle.std.proofs.lemmas.{List.map-append, Slice.Eq.bytes_eq-Decides}
use Rattle.cs_base.specs.{Rates.within, Rates.is_init, declared.resource.Rate.Rate}
use Rattle.cs_words.specs.{Catalogue.Row, Catalogue.row_of, Names.name_rate, Names.is_global}
use Rattle.cs_words.specs.NameSets.{has, place_of, seen}
use Rattle.cs_grammar.specs.{declared.tree.Callee.Callee, Renaming.renamed_expression, Renaming.renamed_argument}
use Rattle.cs_grammar.specs.Tree.{Expression, var, neg, pair, pick, apply, Argument, value, text, Statement, set, call}
use Rattle.cs_grammar.specs.Tree.{choose, Block, no_stmt, andthen, Arms, otherwise, arm}
use Rattle.cs_typed.specs.{declared.setting.Setting.Setting, declared.tree.Var.Var}
use Rattle.cs_typing.specs.Calls.{argument_known, all_known, row_fault, call_fault, row_known, call_known, call_by}
use Rattle.cs_typing.specs.{Calls.typed_call, Renaming.renamed_known, Settings.at}
use Rattle.cs_typing.specs.Expressions.{reads_known, expression_by, typed_expression}
use Rattle.cs_typing.specs.Known.{RateNames, of_rate, with_name, in_table, place_in, added, KnownHere, known_with}
use Rattle.cs_typing.specs.Known.{knows, after_giving, given, given_all, use_channel, clashes, global, variable}
use Rattle.cs_typing.specs.Renaming.{IsRenaming, renamed_name, renamed, renamed_block, renamed_arms, renamed_table}
use Rattle.cs_typing.proofs.SameRates.{KeepsRates, rate_of_kept, value_kept, condition_kept, use_kept, rates_kept}
use Rattle.cs_typing.proofs.SameRates.{wide_kept, text_kept, counts_kept, expression_renamed, call_renamed}
use Rattle.cs_typing.specs.Statements.{set_fault, condition_fault, known, known_block, known_arms, fault, block_fault}
use Rattle.cs_typing.specs.Statements.{arms_fault, all_init, typed_statement, typed_block, typed_arms}
use Rattle.cs_base.specs.declared.fault.OrcKind.TheVariants as orc
use Rattle.cs_base.specs.declared.resource.Rate.TheVariants as rate
use Rattle.cs_grammar.specs.declared.tree.Callee.TheVariants as callee
use Rattle.cs_typed.specs.declared.tree.Var.TheVariants as variant
use Rattle.cs_typed.specs.TypedTree as typed

same_truth : (b c : Bool) → (b ≡ true → c ≡ true) → (c ≡ true → b ≡ true) → b ≡ c
same_truth true c p q = sym (p refl)
same_truth false true p q = q refl
same_truth false false p q = refl

module _ (f : List ℕ → List ℕ) (r : IsRenaming f) where
  abbrev own : List ℕ → List ℕ
  own = renamed_name f

  rate_kept : (x : List ℕ) → name_rate (own x) ≡ name_rate x
  rate_kept x = by (is_global x) refl
    where
      by : (b : Bool) → is_global x ≡ b → name_rate (if b then x else f x) ≡ name_rate x
      by true e = refl
      by false e = r.rate x e

  rates : KeepsRates own
  rates = record { rate = rate_kept }

  global_kept : (x : List ℕ) → is_global (own x) ≡ is_global x
  global_kept x = by (is_global x) refl
    where
      by : (b : Bool) → is_global x ≡ b → is_global (if b then x else f x) ≡ is_global x
      by true e = refl
      by false e = r.stays x e ∙ sym e

  own_name : (x : List ℕ) → is_global x ≡ true → own x ≡ x
  own_name x e = ap (λ b. if b then x else f x) e

  other_name : (x : List ℕ) → is_global x ≡ false → own x ≡ f x
  other_name x e = ap (λ b. if b then x else f x) e

  apart_all : (x y : List ℕ) → own x ≡ own y → x ≡ y
  apart_all x y h = by (is_global x) (is_global y) refl refl
    where
      both : is_global x ≡ is_global y
      both = sym (global_kept x) ∙ ap is_global h ∙ global_kept y

      by : (b c : Bool) → is_global x ≡ b → is_global y ≡ c → x ≡ y
      by true true d e = sym (own_name x d) ∙ h ∙ own_name y e
      by false false d e = r.apart x y d e (sym (other_name x d) ∙ h ∙ other_name y e)
      by true false d e = let k : true ≡ false = sym d ∙ both ∙ e in cc
      by false true d e = let k : true ≡ false = sym e ∙ sym both ∙ d in cc

  same_name : (x y : List ℕ) → bytes_eq (own x) (own y) ≡ bytes_eq x y
  same_name x y =
      same_truth (bytes_eq (own x) (own y)) (bytes_eq x y)
      (λ e. (bytes_eq-Decides x y).1 (apart_all x y ((bytes_eq-Decides (own x) (own y)).0 e)))
      (λ e. (bytes_eq-Decides (own x) (own y)).1 (ap own ((bytes_eq-Decides x y).0 e)))

  has_kept : (names : List (List ℕ)) (x : List ℕ) → has (map own names) (own x) ≡ has names x
  has_kept [] x = refl
  has_kept (y ∷ names) x = λ i. same_name x y i || has_kept names x i

  place_kept : (names : List (List ℕ)) (x : List ℕ) → place_of (map own names) (own x) ≡ place_of names x
  place_kept [] x = refl
  place_kept (y ∷ names) x = λ i. cond (not (same_name x y i)) (1 + place_kept names x i) 0

  seen_kept : (names : List (List ℕ)) (x : List ℕ) → seen (map own names) (own x) ≡ map own (seen names x)
  seen_kept names x =
      ap (λ b. if b then map own names else map own names ++ own x ∷ []) (has_kept names x) ∙ by (has names x)
    where
      by : (b : Bool) → (if b then map own names else map own names ++ own x ∷ [])
          ≡ map own (if b then names else names ++ x ∷ [])
      by true = refl
      by false = sym (map-append own names (x ∷ []))

  of_rate_renamed : (q : Rate) (t : RateNames) → of_rate q (renamed_table f t) ≡ map own (of_rate q t)
  of_rate_renamed rate.Init t = refl
  of_rate_renamed rate.Control t = refl
  of_rate_renamed rate.Audio t = refl

  with_renamed : (q : Rate) (t : RateNames) (x : List ℕ)
      → with_name q (renamed_table f t) (own x) ≡ renamed_table f (with_name q t x)
  with_renamed rate.Init t x =
      ap (λ l. record { init = l; control = map own t.control; audio = map own t.audio }) (seen_kept t.init x)
  with_renamed rate.Control t x =
      ap (λ l. record { init = map own t.init; control = l; audio = map own t.audio }) (seen_kept t.control x)
  with_renamed rate.Audio t x =
      ap (λ l. record { init = map own t.init; control = map own t.control; audio = l }) (seen_kept t.audio x)

  added_renamed : (t : RateNames) (x : List ℕ) → added (renamed_table f t) (own x) ≡ renamed_table f (added t x)
  added_renamed t x = ap (λ q. with_name q (renamed_table f t) (own x)) (rate_kept x) ∙ with_renamed (name_rate x) t x

  in_table_kept : (t : RateNames) (x : List ℕ) → in_table (renamed_table f t) (own x) ≡ in_table t x
  in_table_kept t x =
      ap (λ q. has (of_rate q (renamed_table f t)) (own x)) (rate_kept x)
      ∙ ap (λ l. has l (own x)) (of_rate_renamed (name_rate x) t) ∙ has_kept (of_rate (name_rate x) t) x

  place_in_kept : (t : RateNames) (x : List ℕ) → place_in (renamed_table f t) (own x) ≡ place_in t x
  place_in_kept t x =
      ap (λ q. place_of (of_rate q (renamed_table f t)) (own x)) (rate_kept x)
      ∙ ap (λ l. place_of l (own x)) (of_rate_renamed (name_rate x) t) ∙ place_kept (of_rate (name_rate x) t) x

  knows_kept : (n : KnownHere) (x : List ℕ) → knows (renamed_known f n) (own x) ≡ knows n x
  knows_kept n x =
      ap (λ b. if b then in_table n.shared.globals (own x) else in_table (renamed_table f n.locals)
      (own x)) (global_kept x) ∙ by (is_global x) refl
    where
      by : (b : Bool) → is_global x ≡ b
          → (if b then in_table n.shared.globals (own x) else in_table (renamed_table f n.locals) (own x))
          ≡ (if b then in_table n.shared.globals x else in_table n.locals x)
      by true e = ap (in_table n.shared.globals) (own_name x e)
      by false e = in_table_kept n.locals x

  variable_kept : (n : KnownHere) (x : List ℕ) → variable (renamed_known f n) (own x) ≡ variable n x
  variable_kept n x =
      ap (λ b. if b then over (own x) else local (renamed_table f n.locals) (own x)) (global_kept x)
      ∙ by (is_global x) refl
    where
      over : List ℕ → Var
      over y = variant.Global (global (name_rate y) (place_in n.shared.globals y))

      local : RateNames → List ℕ → Var
      local t y = variant.Local (name_rate y) (place_in t y)

      by : (b : Bool) → is_global x ≡ b → (if b then over (own x) else local (renamed_table f n.locals) (own x))
          ≡ (if b then over x else local n.locals x)
      by true e = ap over (own_name x e)
      by false e = λ i. variant.Local (rate_kept x i) (place_in_kept n.locals x i)

  giving_renamed : (t : RateNames) (x : List ℕ)
      → after_giving (renamed_table f t) (own x) ≡ renamed_table f (after_giving t x)
  giving_renamed t x =
      ap (λ b. if b then renamed_table f t else added (renamed_table f t) (own x)) (global_kept x) ∙ by (is_global x)
    where
      by : (b : Bool) → (if b then renamed_table f t else added (renamed_table f t) (own x)) ≡ renamed_table f
          (if b then t else added t x)
      by true = refl
      by false = added_renamed t x

  given_renamed : (n : KnownHere) (x : List ℕ) → given (renamed_known f n) (own x) ≡ renamed_known f (given n x)
  given_renamed n x = ap (known_with n.shared) (giving_renamed n.locals x)

  given_all_renamed : (n : KnownHere) (xs : List (List ℕ))
      → given_all (renamed_known f n) (map own xs) ≡ renamed_known f (given_all n xs)
  given_all_renamed n [] = refl
  given_all_renamed n (x ∷ xs) =
      ap (λ m. given_all m (map own xs)) (given_renamed n x) ∙ given_all_renamed (given n x) xs

  reads_kept : (n : KnownHere) (e : Expression)
      → reads_known (renamed_known f n) (renamed_expression own e) ≡ reads_known n e
  reads_kept n (var name) = knows_kept n name
  reads_kept n (neg a) = reads_kept n a
  reads_kept n (pair o a b) = λ i. reads_kept n a i && reads_kept n b i
  reads_kept n (pick c a b) = λ i. reads_kept n c i && reads_kept n a i && reads_kept n b i
  reads_kept n (apply g a) = reads_kept n a
  reads_kept n e = refl

  expression_kept : (n : KnownHere) (e : Expression)
      → typed_expression (renamed_known f n) (renamed_expression own e) ≡ typed_expression n e
  expression_kept n e =
      expression_renamed rates (variable (renamed_known f n)) e ∙ λ i. expression_by (λ x. variable_kept n x i) e

  argument_known_kept : (n : KnownHere) (a : Argument)
      → argument_known (renamed_known f n) (renamed_argument own a) ≡ argument_known n a
  argument_known_kept n (value e) = reads_kept n e
  argument_known_kept n (text name) = refl

  all_known_kept : (n : KnownHere) (args : List Argument)
      → all_known (renamed_known f n) (map (renamed_argument own) args) ≡ all_known n args
  all_known_kept n [] = refl
  all_known_kept n (a ∷ args) = λ i. argument_known_kept n a i && all_known_kept n args i

  row_fault_kept : (s : Setting) (n : KnownHere) (row : Row) (results : List (List ℕ)) (args : List Argument)
      → row_fault s (renamed_known f n) row (map own results) (map (renamed_argument own) args)
      ≡ row_fault s n row results args
  row_fault_kept s n row results args = λ i.
      if not (counts_kept rates row results args i) then Some orc.ArgCount
      else (if not (all_known_kept n args i) then Some orc.Undefined
      else (if not (rates_kept rates s row results args i) then Some orc.RateMismatch
      else (if clashes n.shared (use_kept rates row.shape results args i) (text_kept rates args i) then Some
      orc.ChannelRate else (if wide_kept rates s row.shape args i then Some orc.OutCount else None))))

  call_fault_kept : (s : Setting) (n : KnownHere) (c : Callee) (results : List (List ℕ)) (args : List Argument)
      → call_fault s (renamed_known f n) c (map own results) (map (renamed_argument own) args)
      ≡ call_fault s n c results args
  call_fault_kept s n (callee.Name name) results args = refl
  call_fault_kept s n (callee.Opcode o) results args = row_fault_kept s n (row_of o) results args

  row_known_renamed : (n : KnownHere) (row : Row) (results : List (List ℕ)) (args : List Argument)
      → row_known (renamed_known f n) row (map own results) (map (renamed_argument own) args)
      ≡ renamed_known f (row_known n row results args)
  row_known_renamed n row results args =
      λ i. known_with (use_channel n.shared (use_kept rates row.shape results args i) (text_kept rates args i))
      (given_all_renamed n results i).locals

  call_known_renamed : (n : KnownHere) (c : Callee) (results : List (List ℕ)) (args : List Argument)
      → call_known (renamed_known f n) c (map own results) (map (renamed_argument own) args)
      ≡ renamed_known f (call_known n c results args)
  call_known_renamed n (callee.Name name) results args = given_all_renamed n results
  call_known_renamed n (callee.Opcode o) results args = row_known_renamed n (row_of o) results args

  call_kept : (line : ℕ) (n : KnownHere) (c : Callee) (results : List (List ℕ)) (args : List Argument)
      → typed_call line (renamed_known f n) c (map own results) (map (renamed_argument own) args)
      ≡ typed_call line n c results args
  call_kept line n c results args =
      call_renamed rates line n.shared (variable (renamed_known f n)) c results args
      ∙ λ i. call_by line n.shared (λ x. variable_kept n x i) c results args

  mutual
    pub known_renamed : (n : KnownHere) (x : Statement)
        → known (renamed_known f n) (renamed f x) ≡ renamed_known f (known n x)
    known_renamed n (set line name e) = given_renamed n name
    known_renamed n (call line results c args) = call_known_renamed n c results args
    known_renamed n (choose line list) = known_arms_renamed n list

    pub known_block_renamed : (n : KnownHere) (b : Block)
        → known_block (renamed_known f n) (renamed_block f b) ≡ renamed_known f (known_block n b)
    known_block_renamed n no_stmt = refl
    known_block_renamed n (andthen x rest) =
        ap (λ m. known_block m (renamed_block f rest)) (known_renamed n x) ∙ known_block_renamed (known n x) rest

    known_arms_renamed : (n : KnownHere) (list : Arms)
        → known_arms (renamed_known f n) (renamed_arms f list) ≡ renamed_known f (known_arms n list)
    known_arms_renamed n (otherwise b) = known_block_renamed n b
    known_arms_renamed n (arm c b rest) =
        ap (λ m. known_arms m (renamed_arms f rest)) (known_block_renamed n b)
        ∙ known_arms_renamed (known_block n b) rest

  all_init_kept : (list : Arms) → all_init (renamed_arms f list) ≡ all_init list
  all_init_kept (otherwise b) = refl
  all_init_kept (arm c b rest) = λ i. is_init (rate_of_kept rates c i) && all_init_kept rest i

  mutual
    pub statement_kept : (n : KnownHere) (x : Statement)
        → typed_statement (renamed_known f n) (renamed f x) ≡ typed_statement n x
    statement_kept n (set line name e) =
        λ i. typed.set line (rate_kept name i) (variable_kept n name i) (expression_kept n e i)
    statement_kept n (call line results c args) = call_kept line n c results args
    statement_kept n (choose line list) =
        λ i. typed.choose line (if all_init_kept list i then rate.Init else rate.Control) (arms_kept n list i)

    pub block_kept : (n : KnownHere) (b : Block) → typed_block (renamed_known f n) (renamed_block f b) ≡ typed_block n b
    block_kept n no_stmt = refl
    block_kept n (andthen x rest) =
        let behind = ap (λ m. typed_block m (renamed_block f rest)) (known_renamed n x) ∙ block_kept (known n x) rest in
        λ i. typed.andthen (statement_kept n x i) (behind i)

    arms_kept : (n : KnownHere) (list : Arms) → typed_arms (renamed_known f n) (renamed_arms f list) ≡ typed_arms n list
    arms_kept n (otherwise b) = ap typed.otherwise (block_kept n b)
    arms_kept n (arm c b rest) =
        let behind = ap (λ m. typed_arms m (renamed_arms f rest)) (known_block_renamed n b)
        ∙ arms_kept (known_block n b) rest in
        λ i. typed.arm (expression_kept n c i) (block_kept n b i) (behind i)

  set_fault_kept : (s : Setting) (n : KnownHere) (x : List ℕ) (e : Expression)
      → set_fault s (renamed_known f n) (own x) (renamed_expression own e) ≡ set_fault s n x e
  set_fault_kept s n x e = λ i.
      if not (reads_kept n e i) then Some orc.Undefined
      else (if not (value_kept rates e i && within (rate_of_kept rates e i) (rate_kept x i)
      && (s.inside || is_init (rate_kept x i))) then Some orc.RateMismatch else None)

  condition_fault_kept : (s : Setting) (n : KnownHere) (e : Expression)
      → condition_fault s (renamed_known f n) (renamed_expression own e) ≡ condition_fault s n e
  condition_fault_kept s n e = λ i.
      if not (reads_kept n e i) then Some orc.Undefined
      else (if not (condition_kept rates e i && (s.inside || is_init (rate_of_kept rates e i))) then Some
      orc.RateMismatch else None)

  mutual
    pub fault_kept : (s : Setting) (n : KnownHere) (x : Statement)
        → fault s (renamed_known f n) (renamed f x) ≡ fault s n x
    fault_kept s n (set line name e) = ap (at line) (set_fault_kept s n name e)
    fault_kept s n (call line results c args) = ap (at line) (call_fault_kept s n c results args)
    fault_kept s n (choose line list) = arms_fault_kept s n line list

    pub block_fault_kept : (s : Setting) (n : KnownHere) (b : Block)
        → block_fault s (renamed_known f n) (renamed_block f b) ≡ block_fault s n b
    block_fault_kept s n no_stmt = refl
    block_fault_kept s n (andthen x rest) =
        ap (λ m. option_or (fault s (renamed_known f n) (renamed f x)) (block_fault s m (renamed_block f rest)))
        (known_renamed n x) ∙ λ i. option_or (fault_kept s n x i) (block_fault_kept s (known n x) rest i)

    arms_fault_kept : (s : Setting) (n : KnownHere) (line : ℕ) (list : Arms)
        → arms_fault s (renamed_known f n) line (renamed_arms f list) ≡ arms_fault s n line list
    arms_fault_kept s n line (otherwise b) = block_fault_kept s n b
    arms_fault_kept s n line (arm c b rest) =
        let behind = ap (λ m. arms_fault s m line (renamed_arms f rest)) (known_block_renamed n b)
        ∙ arms_fault_kept s (known_block n b) line rest in
        λ i. option_or (at line (condition_fault_kept s n c i)) (option_or (block_fault_kept s n b i) (behind i))
