-- Text that a writer has received, and text in the buffer in front of it.
use Rattle.std.proofs.Common.{arith, ◌≡◌, ◌≢◌, ◌⊎◌, ⊎_elim, ℕ, List, [], ◌++◌, All, Option, None, Some, Result, Ok, Err}
use Rattle.std.proofs.Common.{OnErr, OnOk, subst, sym, ◌∙◌, append_assoc, append-nil}
use Rattle.std.proofs.lemmas.{Grind.common_steps, List.Elements.All-append}
use Rattle.cs_base.specs.Lines.{line_feed}
use Rattle.std.specs.Io.KnownBytes.{Appends, append_known}

-- text was added to the buffer, and then everything was written
pub all_sent : (a b c : Option (List ℕ)) (before between text : List ℕ)
    → Appends (append_known a before) (append_known b between) text → Appends b c between
    → Appends (append_known a before) c text
all_sent None b c before between text p q = tt
all_sent (Some x) None c before between text p q = absurd p
all_sent (Some x) (Some y) None before between text p q = absurd q
all_sent (Some x) (Some y) (Some z) before between text p q = q ∙ p

-- complete lines were written, and then the rest was added to the buffer
pub all_put : (a b c : Option (List ℕ)) (before between after lines rest piece : List ℕ)
    → Appends (append_known a before) b lines → between ≡ []
    → Appends (append_known b between) (append_known c after) rest → lines ++ rest ≡ piece
    → Appends (append_known a before) (append_known c after) piece
all_put None b c before between after lines rest piece p none q e = tt
all_put (Some x) None c before between after lines rest piece p none q e = absurd p
all_put (Some x) (Some y) None before between after lines rest piece p none q e = absurd q
all_put (Some x) (Some y) (Some z) before between after lines rest piece p none q e =
    grind (arith, common_steps, append-nil, append_assoc)

-- ---- the buffer has no line feed

-- a text has no line feed
abbrev pub NoFeed : List ℕ → Type 0
NoFeed text = All (λ b. b ≢ line_feed) text

pub no_feed_in_nothing : (text : List ℕ) → text ≡ [] → NoFeed text
no_feed_in_nothing text e = subst NoFeed (sym e) (λ k d h. absurd (omega arith))

pub still_no_feed : {T E : Type 0} → (r : Result T E) (old new text : List ℕ)
    → OnOk r ((new ≡ old ++ text) ⊎ (new ≡ [])) → OnErr r (new ≡ []) → NoFeed old → NoFeed text → NoFeed new
still_no_feed (Ok x) old new text kept failed a b =
    ⊎_elim (λ e. subst NoFeed (sym e) (All-append (λ n. n ≢ line_feed) old text a b)) (no_feed_in_nothing new) kept
still_no_feed (Err e) old new text kept failed a b = no_feed_in_nothing new failed
