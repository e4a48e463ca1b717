mod Dispatch
mod Selections
mod Reaching
mod Towers
