mod FolderLaws
mod LengthsLaws
mod PairedLaws
mod ReadsLaws
mod UnbrokenLaws
