mod Told
mod Exported
mod Trees
