-- What a standing crew promises about itself, and which cycles it offers to its helpers.
use Rattle.std.specs.Prelude.{◌≡◌, ℕ, ◌+◌, ◌-◌, ◌<◌, ◌≤◌, ◌^◌, Bool, List, min, length, true, false}
use Rattle.cs_board.specs.Counts.{total}
use Rattle.cs_graph.specs.Cover.{HasCover}
use Rattle.cs_pool.specs.{Alone.alone_after, declared.line.Line.Line, declared.pool.Pool.Pool}
use Rattle.cs_pool.specs.Mailboxes.{given, served}

module _ {J : Type 0} where
  -- how many tasks these helpers have begun and given back
  abbrev pub served_by : List (Line J) → ℕ
  served_by lines = total (λ line. served line.end) lines

  -- how many tasks they were given
  abbrev pub given_to : List (Line J) → ℕ
  given_to lines = total (λ line. given line.end) lines

module _ {J R G : Type 0} where
  -- the number of its helpers, without the caller
  abbrev pub helpers : Pool J R G → ℕ
  helpers pool = length pool.lines.items

  -- the number of cycles that it has played, up to the highest count
  abbrev pub ended : Pool J R G → ℕ
  ended pool = pool.ended

  -- the number of tasks that its helpers have begun and given back
  abbrev pub tasks_served : Pool J R G → ℕ
  tasks_served pool = served_by pool.lines.items

  -- the number of tasks that its helpers were given: each is a seat of a cycle's board
  abbrev pub tasks_given : Pool J R G → ℕ
  tasks_given pool = given_to pool.lines.items

  -- whether it has played a cycle in which two workers were useful, and had a helper for it
  abbrev pub has_shared : Pool J R G → Bool
  has_shared pool = pool.has_shared

  -- n helpers were given a part of the cycle, or fewer if memory for a part ran out
  pub record GivesParts (n : ℕ) (before after : Pool J R G) : Type 0 where
    pub most : tasks_given after ≤ tasks_given before + n
    pub all : after.starved ≡ false → tasks_given after ≡ tasks_given before + n

  -- The notes of a cycle are split into chains along the edges; one note of each chain can run at the same
  -- time. For each chain after the caller's, a helper was given a part, or all helpers were.
  pub record IsShared (edges : List (ℕ × ℕ)) (notes : ℕ) (before after : Pool J R G) : Type 0 where
    pub chains : ℕ
    pub cover : HasCover edges notes chains
    pub parts : GivesParts (min (chains - 1) (helpers before)) before after
    -- from the first cycle with such a helper on, only cycles of many values are offered
    pub first : 0 < min (chains - 1) (helpers before) → has_shared after ≡ true
    pub none : min (chains - 1) (helpers before) ≡ 0 → has_shared after ≡ has_shared before

  -- how many of the next cycles the caller runs without helpers
  abbrev pub cycles_alone : Pool J R G → ℕ
  cycles_alone pool = pool.sparing.alone

  -- the last cycles that it offered, `misses` in succession, were begun by no helper before the caller was
  -- done
  abbrev pub HasMissed : ℕ → Pool J R G → Type 0
  HasMissed misses pool = pool.sparing.after_a_miss ≡ alone_after misses

  -- after a cycle that was offered; one that no helper could begin counts as one that none began
  pub record Learns (before after : Pool J R G) : Type 0 where
    pub served : tasks_served before ≤ tasks_served after
    -- a helper began: the next cycle is offered again, and misses are counted from 0
    pub helped : tasks_served before < tasks_served after → (cycles_alone after ≡ 0) × HasMissed 0 after
    -- no helper began: the caller runs the next cycles without helpers, more of them after each such cycle in
    -- succession
    pub missed : tasks_served after ≡ tasks_served before → (misses : ℕ) → HasMissed misses before
        → (cycles_alone after ≡ alone_after misses) × HasMissed (misses + 1) after

-- the count after one more cycle: it stays at its highest number
abbrev pub next_cycle : ℕ → ℕ
next_cycle n = min (n + 1) (2 ^ 64 - 1)
