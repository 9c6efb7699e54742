-- What the caller knows about a helper after it has looked for what was out, and has looked again.
use Rattle.std.proofs.Common.{arith, ◌≡◌, ◌+◌, Option, Some, None, IfSome, IfNone, ap, ◌∙◌}
use Rattle.std.proofs.lemmas.Grind.{common_steps}
use Rattle.std.specs.Int.{from_bool}
use Rattle.cs_cells.specs.Meaning.{Meaning}
use Rattle.cs_pool.specs.{declared.mailbox.Mailbox.Mailbox, declared.mailbox.Returned.Returned}
use Rattle.cs_pool.specs.Mailboxes.{HasSomethingOut, LooksFor}
use Rattle.cs_pool.specs.declared.mailbox.CallerEnd.{CallerEnd}

pub at_none : {A P Q : Type 0} (o : Option A) → (P → Q) → IfNone o P → IfNone o Q
at_none None f p = f p
at_none (Some x) f p = p

pub at_some : {A : Type 0} {P Q : A → Type 0} (o : Option A) → ((x : A) → P x → Q x) → IfSome o P → IfSome o Q
at_some None f p = p
at_some (Some x) f p = f x p

module _ {J : Type 0} {M : Meaning J} where
  -- an end that didn't change has found nothing
  pub found_nothing : {box : Mailbox J} {end end' : CallerEnd J} → end'.seat.table_id ≡ end.seat.table_id
      → end'.seat.me ≡ end.seat.me → LooksFor M box box end end' None
  found_nothing table me = grind (arith, common_steps)

  -- if nothing was found, what was out is still out
  pub still_out : {a b : Mailbox J} {end end' : CallerEnd J} {found : Option (Returned J)}
      → LooksFor M a b end end' found → HasSomethingOut a end → IfNone found (HasSomethingOut b end')
  still_out {found} l h =
      at_none found (λ out. record { board = h.board; seat = h.seat; out = out }) (l.none h.board h.seat h.out)

  -- two looks, the first of which found nothing
  pub looked_again : {a b d : Mailbox J} {end mid end' : CallerEnd J} {found : Option (Returned J)}
      → LooksFor M a b end mid None → LooksFor M b d mid end' found → LooksFor M a d end end' found
  looked_again {found} l m = record {
    some = λ p s h. m.some p s (l.none p s h);
    home = m.home;
    none = λ p s h. m.none p s (l.none p s h);
    counted = at_some found
        (λ r e. (e.0 ∙ ap (λ n. n.served + from_bool r.begun) l.same, e.1 ∙ ap (λ n. n.given) l.same)) m.counted;
    same = at_none found (λ e. e ∙ l.same) m.same;
  }
