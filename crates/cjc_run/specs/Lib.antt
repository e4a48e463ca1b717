-- What `run` says, in the order in which to read it, with the crates whose `specs` say it. docs/BELIEVE.md names each
-- definition, and what to compare it with. None of them is passed on here: that would load the contracts of them all.
-- Bytes: what a format is, and which bytes spell which value by it; descriptors, and the lines of a text (cjc_bytes).
-- The list: the text that names a package and its files (cjc_list).
-- The class file (Java Virtual Machine Specification, chapter 4; cjc_classfile).
-- Bytecode: which bytes spell which instructions (section 6.5; cjc_code).
-- The machine by name: scripts and the values in them, which both machines share (cjc_script); look-up and selection
-- (cjc_world); what initialisers leave (cjc_clinit); the machine itself (cjc_jvm_semantics).
-- The export file (Java Card Virtual Machine Specification 2.2.2, chapter 5; cjc_export).
-- Components (chapter 6): which bytes they are (cjc_capread), which files spell all of a package (cjc_capwrite), and
-- when they are consistent (cjc_check_rules).
-- The card (chapters 3, 4, 6 and 7; cjc_card_semantics).
-- Naming: tokens (section 4.3.7; cjc_tokens), and names for what components hold (cjc_components).
-- The promise: when class files and components behave alike, and what is asked of export files (cjc_theorem); files
-- before and after (cjc_shelf), what the words ask for, and what is promised of that.
pub mod Request
pub mod Promise
-- What else is said: what each command reads and makes, and the lines that tell how a run ended: the rules (cjc_judge);
-- conversion (cjc_cmd_convert), checking (cjc_cmd_check), running by name (cjc_cmd_jvm) and by token (cjc_cmd_card),
-- making (cjc_cmd_make), verifying (cjc_cmd_verify); versions (cjc_compat), comparing them (cjc_cmd_compat); packages
-- together: what they agree on (cjc_group), their components as one group (cjc_link_semantics), their runs
-- (cjc_cmd_link); the text of scripts (cjc_script_text).
pub mod Asked
pub mod Command
pub mod Convert
pub mod Written
pub mod Together
pub mod Text
