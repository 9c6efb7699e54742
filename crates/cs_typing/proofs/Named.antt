-- The names of variables in statements.
use Rattle.std.proofs.Common.{ℕ, ◌+◌, List, [], ◌∷◌}
use Rattle.std.specs.List.{All}
use Rattle.std.proofs.lemmas.List.Elements.{All-head, All-tail}
use Rattle.cs_grammar.specs.Tree.{Expression, number, var, field, head, neg, pair, pick, apply, Argument, value, text}
use Rattle.cs_grammar.specs.Tree.{Statement, set, call, choose, Block, no_stmt, andthen, Arms, otherwise, arm}
use Rattle.cs_grammar.specs.WellFormed.{HasNoStop, IsVariable, WellFormedExpr, WellFormedArg, WellFormedStmt}
use Rattle.cs_grammar.specs.{WellFormed.WellFormedBlock, WellFormed.WellFormedArms, declared.scope.Place.Place}

-- P holds of the name of each variable in an expression
abbrev pub Named : (List ℕ → Type 0) → Expression → Type 0
Named P (number z) = Unit {0}
Named P (var x) = P x
Named P (field k) = Unit {0}
Named P (head h) = Unit {0}
Named P (neg a) = Named P a
Named P (pair o a b) = Named P a × Named P b
Named P (pick c a b) = Named P c × Named P a × Named P b
Named P (apply f a) = Named P a

-- P holds of each name
abbrev pub NamedAll : (List ℕ → Type 0) → List (List ℕ) → Type 0
NamedAll P [] = Unit {0}
NamedAll P (x ∷ xs) = P x × NamedAll P xs

-- P holds of the name of each variable in arguments
abbrev pub NamedArguments : (List ℕ → Type 0) → List Argument → Type 0
NamedArguments P [] = Unit {0}
NamedArguments P (value e ∷ args) = Named P e × NamedArguments P args
NamedArguments P (text t ∷ args) = NamedArguments P args

abbrev mutual
  pub NamedStmt : (List ℕ → Type 0) → Statement → Type 0
  NamedStmt P (set line x e) = P x × Named P e
  NamedStmt P (call line xs c args) = NamedAll P xs × NamedArguments P args
  NamedStmt P (choose line list) = NamedArms P list

  pub NamedBlock : (List ℕ → Type 0) → Block → Type 0
  NamedBlock P no_stmt = Unit {0}
  NamedBlock P (andthen x rest) = NamedStmt P x × NamedBlock P rest

  pub NamedArms : (List ℕ → Type 0) → Arms → Type 0
  NamedArms P (otherwise b) = NamedBlock P b
  NamedArms P (arm c b rest) = Named P c × NamedBlock P b × NamedArms P rest

module _ (P : List ℕ → Type 0) (h : (x : List ℕ) → P x) where
  pub any_named : (e : Expression) → Named P e
  any_named (var x) = h x
  any_named (neg a) = any_named a
  any_named (pair o a b) = (any_named a, any_named b)
  any_named (pick c a b) = (any_named c, any_named a, any_named b)
  any_named (apply f a) = any_named a
  any_named e = tt

  pub any_names : (xs : List (List ℕ)) → NamedAll P xs
  any_names [] = tt
  any_names (x ∷ xs) = (h x, any_names xs)

  pub any_arguments : (args : List Argument) → NamedArguments P args
  any_arguments [] = tt
  any_arguments (value e ∷ args) = (any_named e, any_arguments args)
  any_arguments (text t ∷ args) = any_arguments args

  mutual
    pub any_stmt : (x : Statement) → NamedStmt P x
    any_stmt (set line x e) = (h x, any_named e)
    any_stmt (call line xs c args) = (any_names xs, any_arguments args)
    any_stmt (choose line list) = any_arms list

    pub any_block : (b : Block) → NamedBlock P b
    any_block no_stmt = tt
    any_block (andthen x rest) = (any_stmt x, any_block rest)

    pub any_arms : (list : Arms) → NamedArms P list
    any_arms (otherwise b) = any_block b
    any_arms (arm c b rest) = (any_named c, any_block b, any_arms rest)

-- ---- statements from a text: no name has a full stop

module _ (P : List ℕ → Type 0) (k : (x : List ℕ) → HasNoStop x → P x) where
  pub expression_named : (e : Expression) → WellFormedExpr e → Named P e
  expression_named (var x) h = k x h.1
  expression_named (neg a) h = expression_named a h
  expression_named (pair o a b) h = (expression_named a h.0, expression_named b h.1)
  expression_named (pick c a b) h = (expression_named c h.0, expression_named a h.1, expression_named b h.2)
  expression_named (apply f a) h = expression_named a h
  expression_named e h = tt

  pub names_named : (xs : List (List ℕ)) → All IsVariable xs → NamedAll P xs
  names_named [] h = tt
  names_named (x ∷ xs) h = (k x (All-head IsVariable x xs h).1, names_named xs (All-tail IsVariable x xs h))

  arguments_named : (args : List Argument) → All WellFormedArg args → NamedArguments P args
  arguments_named [] h = tt
  arguments_named (value e ∷ args) h = (
    expression_named e (All-head WellFormedArg (value e) args h),
    arguments_named args (All-tail WellFormedArg (value e) args h),
  )
  arguments_named (text t ∷ args) h = arguments_named args (All-tail WellFormedArg (text t) args h)

  mutual
    stmt_named : (p : Place) (own : List ℕ) (d : ℕ) (x : Statement) → WellFormedStmt p own d x → NamedStmt P x
    stmt_named p own d (set line x e) h = (k x h.0.1, expression_named e h.1)
    stmt_named p own d (call line xs c args) h = (names_named xs h.0, arguments_named args h.2)
    stmt_named p own d (choose line list) h = arms_named p own (d + 1) list h.1

    pub block_named : (p : Place) (own : List ℕ) (d : ℕ) (b : Block) → WellFormedBlock p own d b → NamedBlock P b
    block_named p own d no_stmt h = tt
    block_named p own d (andthen x rest) h = (stmt_named p own d x h.0, block_named p own d rest h.1)

    arms_named : (p : Place) (own : List ℕ) (d : ℕ) (list : Arms) → WellFormedArms p own d list → NamedArms P list
    arms_named p own d (otherwise b) h = block_named p own d b h
    arms_named p own d (arm c b rest) h =
        (expression_named c h.0, block_named p own d b h.1, arms_named p own d rest h.2)
