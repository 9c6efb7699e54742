use Rattle.std.specs.Prelude.{ℕ, List, [], Option, None, Some}

-- the known bytes of a file, if one is open
abbrev pub known_of : {F : Type 0} → (F → Option (List ℕ)) → Option F → Option (List ℕ)
known_of known None = None
known_of known (Some file) = known file

-- what is known of the bytes that are left to read: none where no file is open
abbrev pub left_of : {F : Type 0} → (F → Option (List ℕ)) → Option F → Option (List ℕ)
left_of known None = Some []
left_of known (Some file) = known file
