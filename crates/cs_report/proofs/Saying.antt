-- A text that is written piece by piece.
use Rattle.std.proofs.Common.{◌≡◌, ◌<◌, ◌≤◌, ℕ, ◌+◌, List, [], ◌∷◌, ◌++◌, length, take, drop, get_or, codes, ap, subst}
use Rattle.std.proofs.Common.{sym, refl, ◌∙◌, append_assoc, append-nil}
use Rattle.std.specs.{List.flat_map, Fmt.decimal, Prelude.Result, Prelude.Ok, Prelude.Err, Prelude.OnOk, Prelude.OnErr}
use Rattle.std.proofs.lemmas.{List.take_more, List.take-append-drop, List.take_all, Grind.flat_map-append}
use Rattle.cs_edge.specs.{Moves.SinkTold, Moves.WroteMore, Moves.WrotePart, declared.moves.Failed.Failed}
use Rattle.cs_edge.proofs.Stories.{more_both, part_behind, part_longer}
use Rattle.cs_base.specs.{Limits.limit_number, declared.limit.LimitHit.LimitHit}
use Rattle.cs_report.specs.{declared.status.Status.Status, Report.count_lines, Report.counts_in}
use Rattle.cs_report.specs.declared.counts.PerformanceCounts.{PerformanceCounts}
use Rattle.cs_report.specs.Talk.{joined, Says, fault_message, limit_message, message_of}

-- what always holds, holds for an error
pub on_err : {T E P : Type 0} (r : Result T E) → P → OnErr r P
on_err (Ok x) p = tt
on_err (Err e) p = p

-- the pieces so far
abbrev pub so_far : {X : Type 0} → (X → List ℕ) → List X → ℕ → List ℕ
so_far f pieces i = flat_map f (take i pieces)

so_far_more : {X : Type 0} (f : X → List ℕ) (pieces : List X) (i : ℕ) (d : X) (text : List ℕ) → i < length pieces
    → text ≡ f (get_or pieces i d)
    → so_far f pieces i ++ text ≡ so_far f pieces (i + 1)
so_far_more f pieces i d text lt e =
    ap (λ (l : List ℕ). so_far f pieces i ++ l) (e ∙ sym (append-nil (f (get_or pieces i d))))
    ∙ (sym (flat_map-append f (take i pieces) (get_or pieces i d ∷ []))
    ∙ sym (ap (flat_map f) (take_more pieces i d lt)))

-- one more piece was written
pub said_more : {X : Type 0} (f : X → List ℕ) (pieces : List X) (i : ℕ) (d : X) (text : List ℕ) (a b c : SinkTold)
    → i < length pieces
    → text ≡ f (get_or pieces i d) → WroteMore a b (so_far f pieces i) → WroteMore b c text
    → WroteMore a c (so_far f pieces (i + 1))
said_more f pieces i d text a b c lt e p q =
    let P : List ℕ → Type 0 = λ l. WroteMore a c l in
    subst P (so_far_more f pieces i d text lt e) (more_both a b c (so_far f pieces i) text p q)

-- a part of one more piece was written
pub said_part : {X : Type 0} (f : X → List ℕ) (pieces : List X) (i : ℕ) (d : X) (text : List ℕ) (a b c : SinkTold)
    → i < length pieces
    → text ≡ f (get_or pieces i d) → WroteMore a b (so_far f pieces i) → WrotePart b c text
    → WrotePart a c (flat_map f pieces)
said_part f pieces i d text a b c lt e p s =
    let rest : List ℕ = flat_map f (drop (i + 1) pieces) in
    let whole : flat_map f pieces ≡ (so_far f pieces i ++ text) ++ rest =
    ap (flat_map f) (sym (take-append-drop (i + 1) pieces))
    ∙ (flat_map-append f (take (i + 1) pieces) (drop (i + 1) pieces)
    ∙ ap (λ (l : List ℕ). l ++ rest) (sym (so_far_more f pieces i d text lt e))) in
    part_longer a c (so_far f pieces i ++ text) (flat_map f pieces) (rest, whole)
    (part_behind a b c (so_far f pieces i) text p s)

-- all pieces were written
pub said_all : {X : Type 0} (f : X → List ℕ) (pieces : List X) (i : ℕ) (a b : SinkTold) → length pieces ≤ i
    → WroteMore a b (so_far f pieces i)
    → WroteMore a b (flat_map f pieces)
said_all f pieces i a b h p =
    let P : List _ → Type 0 = λ l. WroteMore a b (flat_map f l) in
    subst P (take_all i pieces h) p

-- the line of a status is written
pub says_message : (a b : SinkTold) (s t : Status) (name text : List ℕ) → s ≡ t → text ≡ message_of t name
    → Says a b text → Says a b (message_of s name)
says_message a b s t name text e h says =
    let P : Status → Type 0 = λ x. Says a b (message_of x name) in
    let Q : List ℕ → Type 0 = λ l. Says a b l in
    subst P (sym e) (subst Q h says)

fault_pieces : (text line number kind numeral name : List ℕ) → line ≡ number → kind ≡ numeral
    → joined (text ∷ codes " line " ∷ line ∷ codes ": " ∷ kind ∷ codes " " ∷ name ∷ codes "\n" ∷ [])
    ≡ joined (text ∷ codes " line " ∷ number ∷ codes ": " ∷ numeral ∷ codes " " ∷ name ∷ codes "\n" ∷ [])
fault_pieces text line number kind numeral name e h = cc

-- the line of a fault, two of whose pieces are numerals
pub says_fault : (a b : SinkTold) (text name line kind : List ℕ) (at number : ℕ) → line ≡ decimal at
    → kind ≡ decimal number
    → Says a b (joined (text ∷ codes " line " ∷ line ∷ codes ": " ∷ kind ∷ codes " " ∷ name ∷ codes "\n" ∷ []))
    → Says a b (fault_message text at number name)
unfolding fault_message
says_fault a b text name line kind at number e h says =
    let Q : List ℕ → Type 0 = λ l. Says a b l in
    subst Q (fault_pieces text line (decimal at) kind (decimal number) name e h) says

limit_pieces : (limit line numeral number : List ℕ) → limit ≡ numeral → line ≡ number
    → joined (codes "limit L" ∷ limit ∷ codes " passed at line " ∷ line ∷ codes "\n" ∷ [])
    ≡ joined (codes "limit L" ∷ numeral ∷ codes " passed at line " ∷ number ∷ codes "\n" ∷ [])
limit_pieces limit line numeral number e h = cc

pub says_limit : (a b : SinkTold) (hit : LimitHit) (limit line : List ℕ) → limit ≡ decimal (limit_number hit.limit)
    → line ≡ decimal hit.line
    → Says a b (joined (codes "limit L" ∷ limit ∷ codes " passed at line " ∷ line ∷ codes "\n" ∷ []))
    → Says a b (limit_message hit)
unfolding limit_message
says_limit a b hit limit line e h says =
    let Q : List ℕ → Type 0 = λ l. Says a b l in
    subst Q (limit_pieces limit line (decimal (limit_number hit.limit)) (decimal hit.line) e h) says

-- five lines of counts, piece by piece
five_lines : (a b c d e blank f g h i j feed : List ℕ)
    → a ++ (blank ++ (f ++ (feed
    ++ (b ++ (blank ++ (g ++ (feed
    ++ (c ++ (blank ++ (h ++ (feed ++ (d ++ (blank ++ (i ++ (feed ++ (e ++ (blank ++ (j ++ feed))))))))))))))))))
    ≡ (a ++ blank ++ f ++ feed) ++ (b ++ blank ++ g ++ feed) ++ (c ++ blank ++ h ++ feed) ++ (d ++ blank ++ i ++ feed)
    ++ (e ++ blank ++ j ++ feed)
five_lines a b c d e blank f g h i j feed = simp append_assoc

-- the counts, five of whose pieces are numerals
pub counts_are : (o : PerformanceCounts) (f c s n r : List ℕ) → f ≡ decimal o.frames → c ≡ decimal o.cycles
    → s ≡ decimal o.started
    → n ≡ decimal o.not_started → r ≡ decimal o.out_of_range
    → joined (codes "frames " ∷ f ∷ codes "\ncycles " ∷ c ∷ codes "\nnotes " ∷ s ∷ codes "\nnot started " ∷ n
    ∷ codes "\nout of range " ∷ r ∷ codes "\n" ∷ [])
    ≡ counts_in o
unfolding count_lines
counts_are o f c s n r e1 e2 e3 e4 e5 =
    rw (e1, e2, e3, e4, e5)
    (five_lines (codes "frames") (codes "cycles") (codes "notes") (codes "not started") (codes "out of range")
    (codes " ")
    (decimal o.frames) (decimal o.cycles) (decimal o.started) (decimal o.not_started) (decimal o.out_of_range)
    (codes "\n"))

pub other_text : (a b : SinkTold) (r : Result (Unit {0}) Failed) (x y : List ℕ) → x ≡ y → OnOk r (WroteMore a b x)
    → OnOk r (WroteMore a b y)
other_text a b r x y e h = let P : List ℕ → Type 0 = λ l. OnOk r (WroteMore a b l) in subst P e h

pub other_part : (a b : SinkTold) (r : Result (Unit {0}) Failed) (x y : List ℕ) → x ≡ y → OnErr r (WrotePart a b x)
    → OnErr r (WrotePart a b y)
other_part a b r x y e h = let P : List ℕ → Type 0 = λ l. OnErr r (WrotePart a b l) in subst P e h

-- the text of one more item was written, completely or a prefix
pub item_said : {X : Type 0} (f : X → List ℕ) (items : List X) (i : ℕ) (x : X) (a b c : SinkTold) → i < length items
    → x ≡ get_or items i x
    → WroteMore a b (so_far f items i) → WroteMore b c (f x) → WroteMore a c (so_far f items (i + 1))
item_said f items i x a b c lt is p q = said_more f items i x (f x) a b c lt (ap f is) p q

pub item_said_in_part : {X : Type 0} (f : X → List ℕ) (items : List X) (i : ℕ) (x : X) (a b c : SinkTold)
    → i < length items → x ≡ get_or items i x
    → WroteMore a b (so_far f items i) → WrotePart b c (f x) → WrotePart a c (flat_map f items)
item_said_in_part f items i x a b c lt is p s = said_part f items i x (f x) a b c lt (ap f is) p s

-- three texts: the first two completely and the third in part; the first completely and the second in part;
-- the first in part
pub third_in_part : (a b c d : SinkTold) (xs ys zs : List ℕ) → WroteMore a b xs → WroteMore b c ys → WrotePart c d zs
    → WrotePart a d (xs ++ ys ++ zs)
third_in_part a b c d xs ys zs p q r = part_behind a c d (xs ++ ys) zs (more_both a b c xs ys p q) r

pub two_in_part : (a b c : SinkTold) (xs ys zs : List ℕ) → WroteMore a b xs → WrotePart b c ys
    → WrotePart a c (xs ++ ys ++ zs)
two_in_part a b c xs ys zs p q = part_longer a c (xs ++ ys) (xs ++ ys ++ zs) (zs, refl) (part_behind a b c xs ys p q)

pub one_in_part : (a b : SinkTold) (xs ys zs : List ℕ) → WrotePart a b xs → WrotePart a b (xs ++ ys ++ zs)
one_in_part a b xs ys zs p = part_longer a b xs (xs ++ ys ++ zs) (ys ++ zs, append_assoc xs ys zs) p

pub wrote_thrice : (a b c d : SinkTold) (xs ys zs : List ℕ) → WroteMore a b xs → WroteMore b c ys → WroteMore c d zs
    → WroteMore a d (xs ++ ys ++ zs)
wrote_thrice a b c d xs ys zs p q r = more_both a c d (xs ++ ys) zs (more_both a b c xs ys p q) r
