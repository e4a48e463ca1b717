mod Cells
mod Converted
