mod BuilderLemmas
pub mod ByComputing
pub mod ComputedTables
pub mod ComputedTexts
mod CutLaw
mod CutLemmas
mod DecimalLaw
mod EscapeLemmas
mod FactLemmas
mod OverlayLemmas
pub mod FlagLaws
mod ItemLemmas
mod LineLemmas
mod LookupLemmas
mod NumberLemmas
pub mod MountingLemmas
pub mod ScriptLemmas
mod PartLemmas
mod PlaceLemmas
mod SliceLemmas
pub mod PrintedTexts
pub mod PrintedFields
pub mod PrintedFlags
pub mod PrintedReadings
pub mod PrintedRows
pub mod PrintedTables
pub mod PrintedLookups
