pub mod PlainRows
pub mod EntryLaws
pub mod UseLaws
pub mod DeclaredLaws
pub mod ImageFitsLaws
pub mod SupersLaws
pub mod MakeLaws
pub mod SortLaws
pub mod CheckedLaws
pub mod ThereLaws
pub mod SuitLaws
pub mod FixedLaws
pub mod InfoLaws
pub mod NamingLaws
pub mod TowerLaws
pub mod BodyLaws
pub mod ActLaws
pub mod EndLaws
pub mod TypeLaws
pub mod NameLaws
pub mod MethodLaws
pub mod DescribedLaws
pub mod ThrownLaws
pub mod FlagLaws
pub mod StandingLaws
pub mod PlaceLaws
pub mod FieldSuits
pub mod ProgramLaws
pub mod CodedLaws
pub mod ReachLaws
pub mod DispatchSuits
pub mod TokenLaws
pub mod SpeltLaws
pub mod FoundLaws
pub mod SentLaws
pub mod KeptLaws
pub mod HoldsLaws
pub mod KindLaws
pub mod SelectedLaws
pub mod ConcreteLaws
pub mod ReachedLaws
pub mod OrderedLaws
pub mod FittingLaws
-- Lemmas of lower crates, for those above.
pub use Rattle.cjc_bytes.proofs.Bools as BytesBools
pub use Rattle.cjc_bytes.proofs.BrokenRules as BytesBrokenRules
pub use Rattle.cjc_bytes.proofs.Gets as BytesGets
pub use Rattle.cjc_bytes.proofs.Lists as BytesLists
pub use Rattle.cjc_bytes.proofs.Numbers as BytesNumbers
pub use Rattle.cjc_bytes.proofs.Plain as BytesPlain
pub use Rattle.cjc_bytes.proofs.Quantified as BytesQuantified
pub use Rattle.cjc_world.proofs.ClassFileFitting as ClassFileFitting
pub use Rattle.cjc_intervals.proofs.BytecodeMembers as BytecodeMembers
pub use Rattle.cjc_world.proofs.Cycles as WorldCycles
pub use Rattle.cjc_world.proofs.UpwardLaws.Lines as WorldLines
pub use Rattle.cjc_tokens.proofs.Facts as TokensFacts
pub use Rattle.cjc_tokens.proofs.Held as TokensHeld
pub use Rattle.cjc_tokens.proofs.Means as TokensMeans
pub use Rattle.cjc_tokens.proofs.Walks as TokensWalks
pub use Rattle.cjc_components.proofs.ClinitOneImage as ClinitOneImage
pub use Rattle.cjc_verify.proofs.CardLinkInfoPlaces as CardLinkInfoPlaces
pub use Rattle.cjc_token_proof.proofs.WorldProofOwn as WorldProofOwn
pub use Rattle.cjc_token_proof.proofs.WorldProofTypes as WorldProofTypes
pub use Rattle.cjc_token_proof.proofs.WorldProofSolid as WorldProofSolid
pub use Rattle.cjc_token_proof.proofs.CallsLaws.Towers as TokenProofTowers
pub use Rattle.cjc_token_proof.proofs.ComponentsLaws.Starts as TokenProofStarts
pub use Rattle.cjc_token_proof.proofs.ComponentsLaws.Tests as TokenProofTests
pub use Rattle.cjc_token_proof.proofs.TablesLaws.Above as TokenProofAbove
pub use Rattle.cjc_token_proof.proofs.TablesLaws.Clean as TokenProofClean
pub use Rattle.cjc_token_proof.proofs.TablesLaws.Fields as TokenProofFields
pub use Rattle.cjc_token_proof.proofs.TablesLaws.Filed as TokenProofFiled
pub use Rattle.cjc_token_proof.proofs.TablesLaws.Infos as TokenProofInfos
pub use Rattle.cjc_token_proof.proofs.TablesLaws.Named as TokenProofNamed
pub use Rattle.cjc_token_proof.proofs.TablesLaws.Order as TokenProofOrder
pub use Rattle.cjc_token_proof.proofs.TablesLaws.Spans as TokenProofSpans
pub use Rattle.cjc_token_proof.proofs.TablesLaws.Typing as TokenProofTyping
pub use Rattle.cjc_token_proof.proofs.WrittenCalls.Begins as TokenProofWrittenCallsBegins
pub use Rattle.cjc_token_proof.proofs.WrittenCalls.Facts as TokenProofWrittenCallsFacts
pub use Rattle.cjc_token_proof.proofs.WrittenCalls.Files as TokenProofWrittenCallsFiles
pub use Rattle.cjc_token_proof.proofs.WrittenCalls.Flags as TokenProofWrittenCallsFlags
pub use Rattle.cjc_token_proof.proofs.WrittenCalls.Ids as TokenProofWrittenCallsIds
pub use Rattle.cjc_token_proof.proofs.WrittenCalls.Known as TokenProofWrittenCallsKnown
pub use Rattle.cjc_token_proof.proofs.WrittenCalls.Offsets as TokenProofWrittenCallsOffsets
pub use Rattle.cjc_token_proof.proofs.WrittenCalls.Receivers as TokenProofWrittenCallsReceivers
pub use Rattle.cjc_token_proof.proofs.WrittenCalls.Tables as TokenProofWrittenCallsTables
pub use Rattle.cjc_token_proof.proofs.WrittenCalls.Towers as TokenProofWrittenCallsTowers
pub use Rattle.cjc_token_proof.proofs.WrittenCalls.Words as TokenProofWrittenCallsWords
pub use Rattle.cjc_token_proof.proofs.WrittenCalls.Written as TokenProofWrittenCallsWritten
pub use Rattle.cjc_token_proof.proofs.WrittenSends.Order as TokenProofWrittenSendsOrder
