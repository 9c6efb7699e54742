use Rattle.std.proofs.lemmas.{Grind.common_steps, List.replicate-append-replicate}
use Rattle.std.proofs.Common.{◌≡◌, ◌≤◌, ℕ, true, List, [], ◌∷◌, ◌++◌, Option, refl, ap, sym, ◌∙◌, inl, inr, ◌+◌}
use Rattle.std.proofs.Common.{append_assoc, append-nil, arith}
use Rattle.cs_edge.specs.{declared.moves.Move.Move, Told.Follows, Told.IsFront, Told.Rose}
use Rattle.cs_edge.specs.declared.moves.Move.TheVariants.{Begin, Write, End}
use Rattle.cs_edge.specs.Moves.{SinkTold, Held, GrownBy, Grown, AreAll, IsRun, IsWhole, IsFrontOf, TakenMore, IsEnded}
use Rattle.cs_edge.specs.Moves.{WroteMore, WrotePart, Wrote, Finished, Stopped, HoldsFront, no_file, open_file}
use Rattle.cs_edge.proofs.Chains.{follows_on, follows_as, follows_same, grown_on, grown_by, all_none, all_on, run_begun}
use Rattle.cs_edge.proofs.Chains.{run_on, front_all, front_of_front}

-- the contents with further bytes
abbrev with_more : List ℕ → Held → Held
with_more bytes held = record { name = held.name; bytes = held.bytes ++ bytes; ended = held.ended }

-- the contents with other bytes
abbrev with_bytes : Held → List ℕ → Held
with_bytes held bytes = record { name = held.name; bytes = bytes; ended = held.ended }

-- the contents, ended
abbrev with_end : Held → Held
with_end held = record { name = held.name; bytes = held.bytes; ended = true }

pub more_twice : (xs ys : List ℕ) (a b c : Held) → TakenMore xs a b → TakenMore ys b c → TakenMore (xs ++ ys) a c
more_twice xs ys a b c p q = q ∙ (ap (with_more ys) p ∙ ap (with_bytes a) (append_assoc a.bytes xs ys))

-- WRITES

-- no write yet
pub more_none : (a : SinkTold) → WroteMore a a []
more_none a = grind (arith, common_steps, all_none, append-nil, follows_same)

-- a write that took these bytes
pub more_on : (a b c : SinkTold) (xs ys : List ℕ) → WroteMore a b xs → Follows b.held c.held (TakenMore ys)
    → Follows b.moves c.moves (GrownBy Write) → c.faults ≡ b.faults → WroteMore a c (xs ++ ys)
more_on a b c xs ys w held moves same = record {
  taken = follows_on (TakenMore xs) (TakenMore ys) (TakenMore (xs ++ ys)) (more_twice xs ys) a.held b.held c.held
      w.taken held;
  made = all_on Write a.moves b.moves c.moves w.made moves;
  same = same ∙ w.same;
}

-- fault counts that were unchanged and then rose
pub rose_after : (a b c : ℕ) → b ≡ a → Rose b c → Rose a c
rose_after a b c e r = rw e at r

-- a write that failed after a prefix of a piece
pub part_failed : (a b c : SinkTold) (front piece : List ℕ) → WroteMore a b front → IsFront front piece
    → Follows b.held c.held (λ before now. now ≡ before)
    → Follows b.moves c.moves (GrownBy Write) → Rose b.faults c.faults → b.faults ≤ c.faults → WrotePart a c piece
part_failed a b c front piece w f held moves rose later = record {
  front = front;
  is_front = f;
  taken = follows_on (TakenMore front) (λ before now. now ≡ before) (TakenMore front) (λ x y z p q. q ∙ p) a.held b.held
      c.held w.taken held;
  made = all_on Write a.moves b.moves c.moves w.made moves;
  rose = rose_after a.faults b.faults c.faults w.same rose;
  later = omega (arith, w.same, later);
}

-- PIECES, ONE AFTER ANOTHER

all_both : (move : Move) (x y : List Move) → AreAll move x → AreAll move y → AreAll move (x ++ y)
all_both move x y p q = (p.0 + q.0, rw (p.1, q.1) (replicate-append-replicate p.0 q.0 move))

made_both : (a b c : SinkTold) → Follows a.moves b.moves (Grown (AreAll Write))
    → Follows b.moves c.moves (Grown (AreAll Write)) → Follows a.moves c.moves (Grown (AreAll Write))
made_both a b c p q = grind (arith, common_steps, all_both, follows_on, grown_on)

taken_both : (a b c : SinkTold) (xs ys : List ℕ) → Follows a.held b.held (TakenMore xs)
    → Follows b.held c.held (TakenMore ys) → Follows a.held c.held (TakenMore (xs ++ ys))
taken_both a b c xs ys p q =
    follows_on (TakenMore xs) (TakenMore ys) (TakenMore (xs ++ ys)) (more_twice xs ys) a.held b.held c.held p q

-- a piece, followed by another complete one
pub more_both : (a b c : SinkTold) (xs ys : List ℕ) → WroteMore a b xs → WroteMore b c ys → WroteMore a c (xs ++ ys)
more_both a b c xs ys w m = grind (arith, common_steps, made_both, taken_both)

-- a piece, followed by a part of another
pub part_behind : (a b c : SinkTold) (xs ys : List ℕ) → WroteMore a b xs → WrotePart b c ys → WrotePart a c (xs ++ ys)
part_behind a b c xs ys w p = record {
  front = xs ++ p.front;
  is_front = (p.is_front.0, ap (λ (l : List ℕ). xs ++ l) p.is_front.1 ∙ sym (append_assoc xs p.front p.is_front.0));
  taken = taken_both a b c xs p.front w.taken p.taken;
  made = made_both a b c w.made p.made;
  rose = rose_after a.faults b.faults c.faults w.same p.rose;
  later = omega (arith, w.same, p.later);
}

-- a part of a piece is a part of a longer piece
pub part_longer : (a b : SinkTold) (xs ys : List ℕ) → IsFront xs ys → WrotePart a b xs → WrotePart a b ys
part_longer a b xs ys f p = grind (arith, common_steps, front_of_front)

-- ENTIRE FILES

-- a `begin`
pub begun : (a b : SinkTold) (name : List ℕ) → Follows a.held b.held (λ _ now. now ≡ open_file name [])
    → Follows a.moves b.moves (GrownBy (Begin name)) → b.faults ≡ a.faults → Wrote a b name []
begun a b name held moves same = grind (arith, common_steps, run_begun)

run_more : (name : List ℕ) (a b c : SinkTold) → Follows a.moves b.moves (Grown (IsRun name Write))
    → Follows b.moves c.moves (Grown (AreAll Write)) → Follows a.moves c.moves (Grown (IsRun name Write))
run_more name a b c p q =
    follows_on (Grown (IsRun name Write)) (Grown (AreAll Write)) (Grown (IsRun name Write))
    (grown_on (IsRun name Write) (AreAll Write) (IsRun name Write) (run_on name Write)) a.moves b.moves c.moves p q

open_more : (name xs ys : List ℕ) (a b c : SinkTold) → Follows a.held b.held (λ _ now. now ≡ open_file name xs)
    → Follows b.held c.held (TakenMore ys) → Follows a.held c.held (λ _ now. now ≡ open_file name (xs ++ ys))
open_more name xs ys a b c p q = grind (arith, common_steps, follows_on)

-- a `begin` followed by writes
pub wrote_on : (a b c : SinkTold) (name xs ys : List ℕ) → Wrote a b name xs → WroteMore b c ys
    → Wrote a c name (xs ++ ys)
wrote_on a b c name xs ys w m = grind (arith, common_steps, open_more, run_more)

whole_on : (name : List ℕ) (x y : List Move) → IsRun name Write x → y ≡ End ∷ [] → IsWhole name (x ++ y)
whole_on name x y p e = (p.0, rw (p.1, e) refl)

whole_moves : (name : List ℕ) (a b c : Option (List Move)) → Follows a b (Grown (IsRun name Write))
    → Follows b c (GrownBy End) → Follows a c (Grown (IsWhole name))
whole_moves name a b c made moves = grind (arith, common_steps, follows_on, grown_by, grown_on, whole_on)

-- a `begin` followed by writes and an `end`
pub finished : (a b c : SinkTold) (name bytes : List ℕ) → Wrote a b name bytes → Follows b.held c.held IsEnded
    → Follows b.moves c.moves (GrownBy End) → c.faults ≡ b.faults → Finished a c name bytes
finished a b c name bytes w held moves same = grind (arith, common_steps, follows_on, whole_moves)

-- PREFIXES OF ENTIRE FILES

-- no call at all
pub stopped_untouched : (a b : SinkTold) (name bytes : List ℕ) → b ≡ a → Stopped a b name bytes
stopped_untouched a b name bytes e = record {
  taken = follows_same (HoldsFront name bytes) (λ x. inl refl) a.held b.held (ap (λ (t : SinkTold). t.held) e);
  made = follows_same (Grown (IsFrontOf (IsWhole name)))
      (λ x. ([], ((Begin name ∷ []) ++ End ∷ [], (0, refl), ((Begin name ∷ []) ++ End ∷ [], refl)), sym (append-nil x)))
      a.moves b.moves (ap (λ (t : SinkTold). t.moves) e);
  later = let same = ap (λ (t : SinkTold). t.faults) e in omega arith;
}

-- a `begin` that failed
pub stopped_begin : (a b : SinkTold) (name bytes : List ℕ) → Follows a.held b.held (λ _ now. now ≡ no_file)
    → Follows a.moves b.moves (GrownBy (Begin name)) → a.faults ≤ b.faults → Stopped a b name bytes
stopped_begin a b name bytes held moves later = record {
  taken = follows_as (λ _ now. now ≡ no_file) (HoldsFront name bytes)
      (λ x y e. inr (inl e)) a.held b.held held;
  made = follows_as (GrownBy (Begin name)) (Grown (IsFrontOf (IsWhole name)))
      (λ x y e. (Begin name ∷ [], ((Begin name ∷ []) ++ End ∷ [], (0, refl), (End ∷ [], refl)), e)) a.moves b.moves
      moves;
  later = later;
}

-- a file that is open with a prefix of some bytes
front_moves : (name : List ℕ) (a b : SinkTold) → Follows a.moves b.moves (Grown (IsRun name Write))
    → Follows a.moves b.moves (Grown (IsFrontOf (IsWhole name)))
front_moves name a b made =
    follows_as (Grown (IsRun name Write)) (Grown (IsFrontOf (IsWhole name)))
    (λ x y g. (g.0, (g.0 ++ End ∷ [], whole_on name g.0 (End ∷ []) g.1 refl, (End ∷ [], refl)), g.2)) a.moves b.moves
    made

open_front : (name front whole : List ℕ) (a b : SinkTold) → IsFront front whole
    → Follows a.held b.held (λ _ now. now ≡ open_file name front) → Follows a.held b.held (HoldsFront name whole)
open_front name front whole a b f held = grind (arith, common_steps, follows_as)

-- writes that stopped
pub stopped_writes : (a b : SinkTold) (name front whole : List ℕ) → Wrote a b name front → IsFront front whole
    → Stopped a b name whole
stopped_writes a b name front whole w f = grind (arith, common_steps, front_moves, open_front)

-- a piece that was written in part, after others
pub stopped_part : (a b c : SinkTold) (name xs ys whole : List ℕ) → Wrote a b name xs → WrotePart b c ys
    → IsFront (xs ++ ys) whole → Stopped a c name whole
stopped_part a b c name xs ys whole w p f =
    grind (arith, common_steps, append_assoc, front_moves, front_of_front, open_front, open_more, run_more)

-- a file that stopped within some bytes stopped within longer ones
pub stopped_longer : (a b : SinkTold) (name bytes whole : List ℕ) → IsFront bytes whole → Stopped a b name bytes
    → Stopped a b name whole
stopped_longer a b name bytes whole f s = grind (arith, common_steps, begun, follows_as, front_of_front)

-- an `end` that failed
pub stopped_end : (a b c : SinkTold) (name bytes : List ℕ) → Wrote a b name bytes
    → Follows b.held c.held (λ before now. now ≡ before) → Follows b.moves c.moves (GrownBy End) → b.faults ≤ c.faults
    → Stopped a c name bytes
stopped_end a b c name bytes w held moves later = record {
  taken = follows_on (λ _ now. now ≡ open_file name bytes) (λ before now. now ≡ before) (HoldsFront name bytes)
      (λ x y z p q. inr (inr (bytes, front_all bytes, q ∙ p))) a.held b.held c.held w.taken held;
  made = follows_as (Grown (IsWhole name)) (Grown (IsFrontOf (IsWhole name)))
      (λ x y g. (g.0, (g.0, g.1, front_all g.0), g.2)) a.moves c.moves
      (whole_moves name a.moves b.moves c.moves w.made moves);
  later = omega (arith, w.same, later);
}
