pub mod ClassTrees
pub mod LangTree
