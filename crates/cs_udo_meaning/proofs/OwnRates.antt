-- A definition's renamed variables keep their rates, and so do the variables of the expanded statements.
use Rattle.std.proofs.Common.{◌≡◌, ◌&&◌, ℕ, if◌then◌else◌, refl, ap}
use Rattle.cs_base.specs.Rates.{is_init}
use Rattle.cs_base.specs.declared.resource.Rate.TheVariants as rate
use Rattle.cs_grammar.specs.Tree.{Arms, otherwise, arm}
use Rattle.cs_typing.specs.Statements.{all_init, choice_rate}
use Rattle.cs_typing.proofs.SameRates.{KeepsRates, rate_of_kept}
use Rattle.cs_udo.specs.Expanded.{Opcodes, after_block, expanded_arms}
use Rattle.cs_udo_meaning.specs.Stands.{own_name}
use Rattle.cs_udo_meaning.proofs.Fresh.{own_rate}

pub own_rates : (f : ℕ) → KeepsRates (own_name f)
own_rates f = record { rate = own_rate f }

all_init_kept : (opcodes : Opcodes) (f n : ℕ) (list : Arms)
    → all_init (expanded_arms opcodes (own_name f) n list) ≡ all_init list
all_init_kept opcodes f n (otherwise b) = refl
all_init_kept opcodes f n (arm c b rest) =
    λ i. is_init (rate_of_kept (own_rates f) c i) && all_init_kept opcodes f (after_block opcodes n b) rest i

pub choice_kept : (opcodes : Opcodes) (f n : ℕ) (list : Arms)
    → choice_rate (expanded_arms opcodes (own_name f) n list) ≡ choice_rate list
choice_kept opcodes f n list = ap (λ b. if b then rate.Init else rate.Control) (all_init_kept opcodes f n list)
