-- What a run of the program promises.
use Rattle.std.specs.Prelude.{List}
use Rattle.cs_play.specs.{Endings.EndsBy, Page.Outside, Preparing.IsReadFor, Scene.Scene, Scene.Sight}
use Rattle.cs_report.specs.declared.status.Status.{Status}
use Rattle.cs_arguments.specs.Reading.{Text}

-- what the objects tell about the world outside the program
abbrev pub told_in : {F K T B C : Type 0} → Sight F K T B C → Scene F K T B C → Outside
told_in see s = record { shelf = see.shelf s.shelf; file = see.wav s.wav; talk = see.talk s.talk }

-- A run of the program with these arguments ended with this status.
pub record IsProgramRun {F K T B C : Type 0} (see : Sight F K T B C) (words : List Text) (s : Status)
    (before now : Scene F K T B C) : Type 0 where
  -- What has happened by then.
  pub ended : EndsBy see s words before now
  -- The shelf received no call, or was read for the source in the arguments, completely or up to some point.
  pub shelf : IsReadFor see.shelf words before.shelf now.shelf
