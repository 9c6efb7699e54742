use Rattle.std.specs.Prelude.{ℕ, ◌≡◌, ◌<◌, ◌≤◌, List, length, take, Option, MatchOption}

-- The text is in the first bytes of the buffer, as many as are used; `None` means that it has outgrown the
-- buffer.
abbrev pub Shows : Option ℕ → List ℕ → List ℕ → Type 0
Shows used out text =
    MatchOption used (length out < length text) (λ n. (n ≡ length text) × (n ≤ length out) × (take n out ≡ text))
