-- The bytes that a sink has received, if it is written: piece after piece, up to the complete file.
use Rattle.std.proofs.Common.{◌≡◌, ℕ, List, [], ◌++◌, refl, ap, sym, ◌∙◌, subst, inl, inr, append_assoc, append-nil}
use Rattle.std.proofs.Common.{◌⊎◌, Some, Err}
use Rattle.std.specs.Result.{IsErrOf}
use Rattle.cs_edge.specs.Told.{Follows, IsFront, Rose}
use Rattle.cs_edge.specs.Moves.{SinkTold, Held, TakenMore, WroteMore, WrotePart, Wrote, Stopped, open_file}
use Rattle.cs_edge.proofs.Chains.{follows_as, follows_on, front_more, front_of_front}
use Rattle.cs_edge.proofs.Stories.{more_both, more_none, wrote_on, stopped_part, stopped_untouched, stopped_writes}
use Rattle.cs_perform.specs.{Hearing.IfWritten, Performances.HasAtLeast, declared.order.Output.Output}
use Rattle.cs_perform.specs.declared.order.Output.TheVariants.{SoundFile, Nothing}

-- PREFIXES

pub front_all : (l : List ℕ) → IsFront l l
front_all l = ([], sym (append-nil l))

pub front_behind : (before front bytes : List ℕ) → IsFront front bytes → IsFront (before ++ front) (before ++ bytes)
front_behind before front bytes f =
    (f.0, ap (λ (l : List ℕ). before ++ l) f.1 ∙ sym (append_assoc before front f.0))

-- WHAT A SINK STILL HAS

pub wrote_keeps : (a b : SinkTold) (name least bytes : List ℕ) → Wrote a b name bytes → IsFront least bytes
    → HasAtLeast name least a b
wrote_keeps a b name least bytes w f =
    follows_as (λ _ held. held ≡ open_file name bytes) (λ _ held. (held.name ≡ Some name) × IsFront least held.bytes)
    (λ x y e. (
      ap (λ (h : Held). h.name) e,
      subst (λ (l : List ℕ). IsFront least l) (sym (ap (λ (h : Held). h.bytes) e))
          f,
    )) a.held b.held w.taken

-- a call with which nothing was written
pub keeps_still : (a b c : SinkTold) (name least : List ℕ) → HasAtLeast name least a b
    → Follows b.held c.held (λ before now. now ≡ before)
    → HasAtLeast name least a c
keeps_still a b c name least k same =
    let P : Held → Type 0 = λ held. (held.name ≡ Some name) × IsFront least held.bytes in
    follows_on (λ _ held. P held) (λ before now. now ≡ before) (λ _ held. P held) (λ x y z p q. subst P (sym q) p)
    a.held b.held c.held k same

-- a piece that was written in part
pub keeps_part : (a b c : SinkTold) (name least ys : List ℕ) → HasAtLeast name least a b → WrotePart b c ys
    → HasAtLeast name least a c
keeps_part a b c name least ys k p =
    follows_on (λ _ held. (held.name ≡ Some name) × IsFront least held.bytes) (TakenMore p.front)
    (λ _ held. (held.name ≡ Some name) × IsFront least held.bytes)
    (λ x y z h e. (
      ap (λ (l : Held). l.name) e ∙ h.0,
      subst (λ (l : List ℕ). IsFront least l) (sym (ap (λ (l : Held). l.bytes) e))
          (front_more least y.bytes p.front h.1),
    )) a.held b.held c.held k p.taken

pub keeps_less : (a b : SinkTold) (name less least : List ℕ) → IsFront less least → HasAtLeast name least a b
    → HasAtLeast name less a b
keeps_less a b name less least f k =
    follows_as (λ _ held. (held.name ≡ Some name) × IsFront least held.bytes)
    (λ _ held. (held.name ≡ Some name) × IsFront less held.bytes)
    (λ x y p. (p.0, front_of_front less least y.bytes f p.1)) a.held b.held k

-- A SINK THAT IS WRITTEN, OR NOT

module _ {W : Type 0} (tells : W → SinkTold) where
  pub none_written : (w : Output) (a : W) → IfWritten tells w a a (λ b n. WroteMore b n [])
  none_written SoundFile a = more_none (tells a)
  none_written Nothing a = refl

  pub more_written : (w : Output) (a b c : W) (xs ys : List ℕ) → IfWritten tells w a b (λ x y. WroteMore x y xs)
      → IfWritten tells w b c (λ x y. WroteMore x y ys) → IfWritten tells w a c (λ x y. WroteMore x y (xs ++ ys))
  more_written SoundFile a b c xs ys p q = more_both (tells a) (tells b) (tells c) xs ys p q
  more_written Nothing a b c xs ys p q = q ∙ p

  pub file_written : (w : Output) (a b c : W) (name xs ys : List ℕ) → IfWritten tells w a b (λ x y. Wrote x y name xs)
      → IfWritten tells w b c (λ x y. WroteMore x y ys) → IfWritten tells w a c (λ x y. Wrote x y name (xs ++ ys))
  file_written SoundFile a b c name xs ys p q = wrote_on (tells a) (tells b) (tells c) name xs ys p q
  file_written Nothing a b c name xs ys p q = q ∙ p

  pub file_stopped : (w : Output) (a b : W) (name front whole : List ℕ)
      → IfWritten tells w a b (λ x y. Wrote x y name front)
      → IsFront front whole → IfWritten tells w a b (λ x y. Stopped x y name whole)
  file_stopped SoundFile a b name front whole p f = stopped_writes (tells a) (tells b) name front whole p f
  file_stopped Nothing a b name front whole p f = p

  pub file_untouched : (w : Output) (a : W) (name whole : List ℕ)
      → IfWritten tells w a a (λ x y. Stopped x y name whole)
  file_untouched SoundFile a name whole = stopped_untouched (tells a) (tells a) name whole refl
  file_untouched Nothing a name whole = refl

  pub file_paused : (w : Output) (a b : W) (name bytes : List ℕ) (Q : Type 0)
      → IfWritten tells w a b (λ x y. Wrote x y name bytes)
      → IfWritten tells w a b (λ x y. Q ⊎ Wrote x y name bytes)
  file_paused SoundFile a b name bytes Q p = inr p
  file_paused Nothing a b name bytes Q p = p

  pub file_unbegun : (w : Output) (a : W) (name bytes : List ℕ) (Q : Type 0) → Q
      → IfWritten tells w a a (λ x y. Q ⊎ Wrote x y name bytes)
  file_unbegun SoundFile a name bytes Q q = inl q
  file_unbegun Nothing a name bytes Q q = refl

  pub file_kept : (w : Output) (a b : W) (name least bytes : List ℕ)
      → IfWritten tells w a b (λ x y. Wrote x y name bytes)
      → IsFront least bytes → IfWritten tells w a b (HasAtLeast name least)
  file_kept SoundFile a b name least bytes p f = wrote_keeps (tells a) (tells b) name least bytes p f
  file_kept Nothing a b name least bytes p f = p

  -- a piece that was written in part, after the file so far
  pub file_part : (w : Output) (a b c : W) (name xs ys whole : List ℕ)
      → IfWritten tells w a b (λ x y. Wrote x y name xs) → IfWritten tells w b c (λ x y. WrotePart x y ys)
      → IsFront (xs ++ ys) whole → IfWritten tells w a c (λ x y. Stopped x y name whole)
  file_part SoundFile a b c name xs ys whole p q f = stopped_part (tells a) (tells b) (tells c) name xs ys whole p q f
  file_part Nothing a b c name xs ys whole p q f = q ∙ p

  pub part_kept : (w : Output) (a b c : W) (name least xs ys : List ℕ)
      → IfWritten tells w a b (λ x y. Wrote x y name xs) → IfWritten tells w b c (λ x y. WrotePart x y ys)
      → IsFront least xs → IfWritten tells w a c (HasAtLeast name least)
  part_kept SoundFile a b c name least xs ys p q f =
      keeps_part (tells a) (tells b) (tells c) name least ys (wrote_keeps (tells a) (tells b) name least xs p f) q
  part_kept Nothing a b c name least xs ys p q f = q ∙ p

  -- the count of faults stays the same meanwhile
  pub same_after : (w : Output) (a b : W) (bytes : List ℕ) → IfWritten tells w a b (λ x y. WroteMore x y bytes)
      → (tells b).faults ≡ (tells a).faults
  same_after SoundFile a b bytes p = p.same
  same_after Nothing a b bytes p = ap (λ (x : W). (tells x).faults) p

  pub same_begun : (w : Output) (a b : W) (name bytes : List ℕ) → IfWritten tells w a b (λ x y. Wrote x y name bytes)
      → (tells b).faults ≡ (tells a).faults
  same_begun SoundFile a b name bytes p = p.same
  same_begun Nothing a b name bytes p = ap (λ (x : W). (tells x).faults) p

  -- the count of faults rises if a piece is written in part
  pub rose_in_part : (w : Output) (a b : W) (bytes : List ℕ) → w ≡ SoundFile
      → IfWritten tells w a b (λ x y. WrotePart x y bytes) → Rose (tells a).faults (tells b).faults
  rose_in_part SoundFile a b bytes e p = p.rose
  rose_in_part Nothing a b bytes e p = absurd (cc)

-- the same error as the result of another call
pub error_as : {A B E : Type 0} (x y : E) → IsErrOf {T = A} (Err x) y → IsErrOf {T = B} (Err x) y
error_as x y e = let same : x ≡ y = cc in ap (λ (z : _). Err z) same
