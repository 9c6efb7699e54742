-- What contracts see of the parts of a setup.
use Rattle.cs_piece.specs.Setups.{SetupData}
use Rattle.cs_piece.specs.declared.setup.Setup.TheInside.{Inside}

-- the setup that these parts make
abbrev pub data_of : Inside → SetupData
data_of s = record {
  head = s.head;
  spaces = s.spaces;
  orchestra = s.orchestra.orchestra;
  plot = s.plot;
  tables = s.tables.items;
  layout = s.layout;
  lowered = s.lowered;
  zones = s.zoned.zones;
  zero_foot = s.zoned.outside;
  feet = s.zoned.feet.items;
}
