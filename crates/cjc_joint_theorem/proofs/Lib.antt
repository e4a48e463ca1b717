pub mod AskedLaws
pub mod CodeLaws
pub mod RuleLaws
pub mod TogetherLaws
pub mod MembersLaws
pub mod OrderedLaws
