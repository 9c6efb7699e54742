-- Statements after others: the names known after them, the first rule that they break, and their typed form.
use Rattle.std.proofs.Common.{◌≡◌, ◌∙◌, Option, Some, None, refl, sym, ap}
use Rattle.std.specs.Option.{option_or}
use Rattle.cs_grammar.specs.Tree.{Block, no_stmt, andthen, joins}
use Rattle.cs_typed.specs.{TypedTree.then_block, declared.setting.Setting.Setting}
use Rattle.cs_typing.specs.Known.{KnownHere}
use Rattle.cs_typing.specs.Statements.{known, known_block, fault, block_fault, typed_statement, typed_block}
use Rattle.cs_typed.specs.TypedTree as typed

pub or_none : {A : Type 0} (a : Option A) → option_or a None ≡ a
or_none None = refl
or_none (Some x) = refl

pub or_again : {A : Type 0} (a b c : Option A) → option_or (option_or a b) c ≡ option_or a (option_or b c)
or_again None b c = refl
or_again (Some x) b c = refl

pub known_joins : (n : KnownHere) (a b : Block) → known_block n (joins a b) ≡ known_block (known_block n a) b
known_joins n no_stmt b = refl
known_joins n (andthen x rest) b = known_joins (known n x) rest b

pub fault_joins : (s : Setting) (n : KnownHere) (a b : Block)
    → block_fault s n (joins a b) ≡ option_or (block_fault s n a) (block_fault s (known_block n a) b)
fault_joins s n no_stmt b = refl
fault_joins s n (andthen x rest) b =
    ap (option_or (fault s n x)) (fault_joins s (known n x) rest b)
    ∙ sym (or_again (fault s n x) (block_fault s (known n x) rest) (block_fault s (known_block (known n x) rest) b))

pub typed_joins : (n : KnownHere) (a b : Block)
    → typed_block n (joins a b) ≡ then_block (typed_block n a) (typed_block (known_block n a) b)
typed_joins n no_stmt b = refl
typed_joins n (andthen x rest) b = ap (λ r. typed.andthen (typed_statement n x) r) (typed_joins (known n x) rest b)
