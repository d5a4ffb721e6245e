-- Choices as records.
use Rattle.records.specs.declared.Record.{Record}
use Rattle.records.specs.declared.Choice.{Choice}
use Rattle.records.specs.declared.Choice.TheVariants.{Step, Set, Return}
use Rattle.records.specs.Records.{record_of}

-- the record that says so
abbrev pub recorded : Choice → Record
recorded (Step x) = record_of 0 x
recorded (Set m) = record_of 1 m
recorded (Return m) = record_of 2 m
