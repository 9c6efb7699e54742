-- The size of the rest: one more than the number of remaining symbols, and 0 after a fault. No part of a
-- reading increases it.
use Rattle.std.proofs.Common.{◌≡◌, ◌<◌, ◌≤◌, ◌+◌, ◌⊎◌, ℕ, Bool, true, false, List, [], ◌∷◌, length, Ok, Err}
use Rattle.std.proofs.Common.{if◌then◌else◌, refl, arith, inl, inr}
use Rattle.cs_grammar.specs.{declared.symbol.Kind.Kind, declared.symbol.Expected.Expected}
use Rattle.cs_grammar.specs.Symbols.{Symbol, after, next}
use Rattle.cs_grammar.specs.Reading.{Left, Reading, Scope, both, ended, left, line_end, mapped, misfit, next_is, skip}
use Rattle.cs_grammar.specs.Reading.{three, through}
use Rattle.cs_base.specs.declared.fault.OrcKind.TheVariants as orc
use Rattle.cs_grammar.specs.declared.symbol.Kind.TheVariants as kind

-- the size of the rest
abbrev pub size : Left → ℕ
size (Ok ts) = length ts + 1
size (Err f) = 0

pub after_size : (ts : List Symbol) → length (after ts) ≤ length ts
after_size [] = omega arith
after_size (t ∷ ts) = omega arith

pub skip_size : (st : Left) → size (skip st) ≤ size st
skip_size (Err f) = omega arith
skip_size (Ok ts) = omega (arith, after_size ts)

pub mapped_size : {A B : Type 0} (f : A → B) (o : Reading A) → size (left (mapped f o)) ≤ size (left o)
mapped_size f (Ok (a, ts)) = omega arith
mapped_size f (Err e) = omega arith

pub both_size : {A B C : Type 0} (f : A → B → C) (o : Reading A) (b : Reading B)
    → size (left (both f o b)) ≤ size (left b)
both_size f (Ok (a, ts)) (Ok (b, us)) = omega arith
both_size f (Ok (a, ts)) (Err e) = omega arith
both_size f (Err e) b = omega arith

pub three_size : {A B C D : Type 0} (f : A → B → C → D) (o : Reading A) (b : Reading B) (c : Reading C)
    → size (left (three f o b c)) ≤ size (left c)
three_size f (Ok (a, ts)) b c = both_size (f a) b c
three_size f (Err e) b c = omega arith

pub choice_size : {A : Type 0} (b : Bool) (x y : Reading A) (k : ℕ) → size (left x) ≤ k → size (left y) ≤ k
    → size (left (if b then x else y)) ≤ k
choice_size true x y k h i = h
choice_size false x y k h i = i

pub through_size : {A : Type 0} (s : Scope) (p : Expected) (o : Reading A) → size (left (through s p o)) ≤ size (left o)
through_size s p (Err f) = omega arith
through_size s p (Ok (a, ts)) =
    choice_size (next_is p ts) (Ok (a, after ts)) (Err (misfit s orc.Unexpected ts)) (length ts + 1)
    (omega (arith, after_size ts)) (omega arith)

line_end_size : {A : Type 0} (s : Scope) (a : A) (k : Kind) (ts : List Symbol)
    → size (left (line_end s a k ts)) ≤ length ts + 1
line_end_size s a kind.NewLine ts = omega (arith, after_size ts)
line_end_size s a kind.End ts = omega arith
line_end_size s a _ ts = omega arith

pub ended_size : {A : Type 0} (s : Scope) (o : Reading A) → size (left (ended s o)) ≤ size (left o)
ended_size s (Err f) = omega arith
ended_size s (Ok (a, ts)) = line_end_size s a (next ts).kind ts
