-- The two times at which a note's statements are performed.

-- as a note begins, or in a control cycle
pub data When : Type 0 where
  beginning : When
  cycle : When
