mod Hexadecimal
