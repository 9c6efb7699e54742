-- The result of a call, from the results of the calls in it.
use Rattle.std.proofs.Common.{◌≡◌, ◌∙◌, Bool, true, false, List, Result, Ok, Err, if◌then◌else◌, refl, sym, ap, subst}
use Rattle.std.specs.Result.{IsErrAnd, IfOk, IfErr}
use Rattle.cs_base.specs.{declared.fault.Or.Or, declared.fault.OrcFault.OrcFault}
use Rattle.cs_grammar.specs.Reading.{next_is, through, Left, Reading, Scope, both, ended, left, line_end, mapped}
use Rattle.cs_grammar.specs.Reading.{misfit}
use Rattle.cs_grammar.specs.inner.Answers.{Gives, Passes, line_past, past}
use Rattle.cs_grammar.specs.{declared.symbol.Kind.Kind, declared.symbol.Expected.Expected}
use Rattle.cs_grammar.specs.Symbols.{Symbol, after, next}
use Rattle.cs_base.specs.declared.fault.Or.TheVariants as or
use Rattle.cs_base.specs.declared.fault.OrcKind.TheVariants as orc
use Rattle.cs_grammar.specs.declared.symbol.Kind.TheVariants as kind

-- two errors are the same
abbrev pub Same : Or OrcFault → Or OrcFault → Type 0
Same e y = y ≡ e

-- the exit of a `?`: the same fault, or out of memory
pub failed : {T U A B : Type 0} (see : T → A) (sees : U → B) (r : Result U (Or OrcFault)) (e : Or OrcFault)
    (rest others : List Symbol)
    (P : Reading A → Type 0) (Q : Reading B → Type 0) → IsErrAnd r (Same e) → Gives see (Err e) rest P
    → ((f : OrcFault) → P (Err f) → Q (Err f))
    → Gives sees r others Q
failed see sees (Ok x) e rest others P Q i h k = elim i [ ]
failed see sees (Err (or.Fault g)) (or.Fault f) rest others P Q i h k =
    subst (λ y. Gives sees (Err y) others Q) (sym i) (k f h)
failed see sees (Err or.OutOfMemory) e rest others P Q i h k = tt
failed see sees (Err (or.Fault g)) or.OutOfMemory rest others P Q i h k = cc

-- the exit of a `?` after a symbol that must come next
pub unpassed : {U B : Type 0} (T : Type 0) (sees : U → B) (r : Result U (Or OrcFault)) (e : Or OrcFault)
    (rest others : List Symbol) (st : Left)
    (Q : Reading B → Type 0) → IsErrAnd r (Same e) → Passes {T = T} (Err e) rest st
    → ((f : OrcFault) → st ≡ Err f → Q (Err f)) → Gives sees r others Q
unpassed T sees (Ok x) e rest others st Q i h k = elim i [ ]
unpassed T sees (Err (or.Fault g)) (or.Fault f) rest others st Q i h k =
    subst (λ y. Gives sees (Err y) others Q) (sym i) (k f h)
unpassed T sees (Err or.OutOfMemory) e rest others st Q i h k = tt
unpassed T sees (Err (or.Fault g)) or.OutOfMemory rest others st Q i h k = cc

-- a value that is made at the end, or out of memory
pub made : {U B : Type 0} (sees : U → B) (r : Result U (Or OrcFault)) (v : B) (rest : List Symbol)
    (Q : Reading B → Type 0) → IfOk r (λ x. sees x ≡ v)
    → IfErr r (λ e. e ≡ or.OutOfMemory) → Q (Ok (v, rest)) → Gives sees r rest Q
made sees (Ok x) v rest Q h k q = subst (λ y. Q (Ok (y, rest))) (sym h) q
made sees (Err (or.Fault f)) v rest Q h k q = cc
made sees (Err or.OutOfMemory) v rest Q h k q = tt

-- ---- a symbol that must come next

abbrev past_on : Scope → List Symbol → Bool → Left
past_on s ts b = if b then Ok (after ts) else Err (misfit s orc.Unexpected ts)

abbrev through_on : {A : Type 0} → Scope → A → List Symbol → Bool → Reading A
through_on s a ts b = if b then Ok (a, after ts) else Err (misfit s orc.Unexpected ts)

left_on : {A : Type 0} (s : Scope) (a : A) (ts : List Symbol) (b : Bool) → left (through_on s a ts b) ≡ past_on s ts b
left_on s a ts true = refl
left_on s a ts false = refl

pub left_through : {A : Type 0} (s : Scope) (p : Expected) (a : A) (ts : List Symbol)
    → left (through s p (Ok (a, ts))) ≡ past s p ts
left_through s p a ts = left_on s a ts (next_is p ts)

-- a reading with this value and these remaining symbols
abbrev pub valued : {A : Type 0} → A → Left → Reading A
valued a (Ok ts) = Ok (a, ts)
valued a (Err f) = Err f

valued_on : {A : Type 0} (s : Scope) (a : A) (ts : List Symbol) (b : Bool)
    → through_on s a ts b ≡ valued a (past_on s ts b)
valued_on s a ts true = refl
valued_on s a ts false = refl

pub through_is : {A : Type 0} (s : Scope) (p : Expected) (a : A) (ts : List Symbol) (st : Left) → past s p ts ≡ st
    → through s p (Ok (a, ts)) ≡ valued a st
through_is s p a ts st e = valued_on s a ts (next_is p ts) ∙ ap (valued a) e

-- the end of a line as such a reading

line_valued : {A : Type 0} (s : Scope) (a : A) (k : Kind) (ts : List Symbol)
    → line_end s a k ts ≡ valued a (line_past s k ts)
line_valued s a kind.NewLine ts = refl
line_valued s a kind.End ts = refl
line_valued s a _ ts = refl

pub ended_is : {A : Type 0} (s : Scope) (a : A) (ts : List Symbol) (st : Left) → line_past s (next ts).kind ts ≡ st
    → ended s (Ok (a, ts)) ≡ valued a st
ended_is s a ts st e = line_valued s a (next ts).kind ts ∙ ap (valued a) e

pub left_valued : {A : Type 0} (a : A) (st : Left) → left (valued a st) ≡ st
left_valued a (Ok ts) = refl
left_valued a (Err f) = refl

-- a value that is passed on, with the symbols that must follow it
pub followed : {U B : Type 0} (sees : U → B) (r : Result U (Or OrcFault)) (v : U) (rest : List Symbol) (st : Left)
    (Q : Reading B → Type 0)
    → IfOk r (λ x. x ≡ v) → Passes r rest st → ((p : Left) → st ≡ p → Q (valued (sees v) p)) → Gives sees r rest Q
followed sees (Ok x) v rest st Q h e k = subst (λ y. Q (Ok (sees y, rest))) (sym h) (k (Ok rest) e)
followed sees (Err (or.Fault f)) v rest st Q h e k = k (Err f) e
followed sees (Err or.OutOfMemory) v rest st Q h e k = tt

-- ---- a value that is converted

abbrev value_in : {A : Type 0} → A → Reading A → A
value_in d (Ok p) = p.0
value_in d (Err f) = d

pub same_value : {A : Type 0} (x y : A) (ws : List Symbol) (st : Left) → Ok (x, ws) ≡ valued y st → x ≡ y
same_value x y ws (Ok vs) e = ap (value_in x) e
same_value x y ws (Err f) e = cc

mapped_valued : {A B : Type 0} (g : A → B) (a : A) (st : Left) → valued (g a) st ≡ mapped g (valued a st)
mapped_valued g a (Ok ts) = refl
mapped_valued g a (Err f) = refl

pub through_mapped : {A B : Type 0} (s : Scope) (p : Expected) (g : A → B) (o : Reading A)
    → through s p (mapped g o) ≡ mapped g (through s p o)
through_mapped s p g (Ok (a, ts)) =
    through_is s p (g a) ts (past s p ts) refl ∙ mapped_valued g a (past s p ts)
    ∙ ap (mapped g) (sym (through_is s p a ts (past s p ts) refl))
through_mapped s p g (Err f) = refl

pub ended_mapped : {A B : Type 0} (s : Scope) (g : A → B) (o : Reading A) → ended s (mapped g o) ≡ mapped g (ended s o)
ended_mapped s g (Ok (a, ts)) =
    let st : Left = line_past s (next ts).kind ts in
    ended_is s (g a) ts st refl ∙ mapped_valued g a st ∙ ap (mapped g) (sym (ended_is s a ts st refl))
ended_mapped s g (Err f) = refl

pub closing_mapped : {A B : Type 0} (s t : Scope) (p : Expected) (g : A → B) (o : Reading A)
    → ended t (through s p (mapped g o)) ≡ mapped g (ended t (through s p o))
closing_mapped s t p g o = ap (ended t) (through_mapped s p g o) ∙ ended_mapped t g (through s p o)

pub both_mapped : {A B C : Type 0} (f : A → B → C) (a : A) (ts : List Symbol) (b : Reading B)
    → both f (Ok (a, ts)) b ≡ mapped (f a) b
both_mapped f a ts (Ok (b, us)) = refl
both_mapped f a ts (Err e) = refl

-- the symbols that remain after a value and the end of its line

abbrev closing : Scope → Left → Left
closing t (Ok ts) = line_past t (next ts).kind ts
closing t (Err f) = Err f

ended_valued : {A : Type 0} (t : Scope) (a : A) (st : Left) → ended t (valued a st) ≡ valued a (closing t st)
ended_valued t a (Ok ts) = ended_is t a ts (line_past t (next ts).kind ts) refl
ended_valued t a (Err f) = refl

pub through_keeps : {A : Type 0} (s : Scope) (p : Expected) (x y : A) (ws us : List Symbol)
    → Ok (x, ws) ≡ through s p (Ok (y, us)) → x ≡ y
through_keeps s p x y ws us e = same_value x y ws (past s p us) (e ∙ through_is s p y us (past s p us) refl)

pub line_keeps : {A : Type 0} (t : Scope) (x y : A) (ws us : List Symbol) → Ok (x, ws) ≡ ended t (Ok (y, us)) → x ≡ y
line_keeps t x y ws us e =
    same_value x y ws (line_past t (next us).kind us) (e ∙ ended_is t y us (line_past t (next us).kind us) refl)

pub closing_keeps : {A : Type 0} (s t : Scope) (p : Expected) (x y : A) (ws us : List Symbol)
    → Ok (x, ws) ≡ ended t (through s p (Ok (y, us))) → x ≡ y
closing_keeps s t p x y ws us e =
    same_value x y ws (closing t (past s p us))
    (e ∙ ap (ended t) (through_is s p y us (past s p us) refl) ∙ ended_valued t y (past s p us))
